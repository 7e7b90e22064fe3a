-- `print::print_as` meets its contract. Assumes nothing.
use Rattle.print.proofs.Phases.{file-written, file_refused}
use Rattle.print.proofs.print_as.Goals as goal

pub returns-in-Ok : goal.returns-in-Ok
returns-in-Ok g c = file-written c.print_file.ensures c.in-Ok.is

pub returns-in-Err : goal.returns-in-Err
returns-in-Err g c = file_refused c.print_file.ensures c.in-Err.is c.refuse.ensures
