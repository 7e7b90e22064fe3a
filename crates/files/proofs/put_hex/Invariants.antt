-- `files::put_hex` puts two digits for each byte: what is put so far is the digits of the bytes passed. Assumes nothing.
use Rattle.std.proofs.Common.{◌≤◌, length, take}
use Rattle.files.specs.Text.{Put, hex_of}
use Rattle.files.proofs.put_hex.Given as goal

abbrev pub invariant-loop-b : goal.invariant-loop-b
invariant-loop-b l = (l.end ≤ length l.buf) × Put l.initial.buf l.fn.at (hex_of (take l.b-index l.bytes)) l.buf l.end
