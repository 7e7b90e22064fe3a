-- `entries::entry_at` meets its contract. Assumes nothing.
use mathlib.Core.Path.{refl}
use mir.Syntax.{w64}
use mir.ValLaws.{to_z-of_z}
use native.Mathlib.Omega.{arith}
use Rattle.proof.specs.Entries.{combine_tag, reduce_tag, scale_tag, strengthen_tag, number_tag, stride_tag, round_tag, split_tag, in_place}
use Rattle.entries.proofs.Reading.{refused_size, combine-in, reduce-in, scale_in, strengthen-in, number_in, stride-in, round-in, split-in, claim_in, claim-wrong, claim-misplaced, header_in, unknown_in}
use Rattle.entries.proofs.entry_at.Goals as goal

pub returns-in_err-row-in-16 : goal.returns-in_err-row-in-16
unfolding in_place
returns-in_err-row-in-16 c = refused_size _ _ _ _ combine_tag c.in-16.is refl refl c.in_err-row-in-16.ensures c.from_residual.ensures.1

pub returns-in_err-row-in-17 : goal.returns-in_err-row-in-17
unfolding in_place
returns-in_err-row-in-17 c = refused_size _ _ _ _ reduce_tag c.in-17.is refl refl c.in_err-row-in-17.ensures c.from_residual-in_err-row-in-17.ensures.1

pub returns-in_err-row-in-18 : goal.returns-in_err-row-in-18
unfolding in_place
returns-in_err-row-in-18 c = refused_size _ _ _ _ scale_tag c.in-18.is refl refl c.in_err-row-in-18.ensures c.from_residual-in_err-row-in-18.ensures.1

pub returns-in_err-row-in-19 : goal.returns-in_err-row-in-19
unfolding in_place
returns-in_err-row-in-19 c = refused_size _ _ _ _ strengthen_tag c.in-19.is refl refl c.in_err-row-in-19.ensures c.from_residual-in_err-row-in-19.ensures.1

pub returns-in_err-row-in-20 : goal.returns-in_err-row-in-20
unfolding in_place
returns-in_err-row-in-20 c = refused_size _ _ _ _ number_tag c.in-20.is refl refl c.in_err-row-in-20.ensures c.from_residual-in_err-row-in-20.ensures.1

pub returns-in_err-row-in-21 : goal.returns-in_err-row-in-21
unfolding in_place
returns-in_err-row-in-21 c = refused_size _ _ _ _ stride_tag c.in-21.is refl refl c.in_err-row-in-21.ensures c.from_residual-in_err-row-in-21.ensures.1

pub returns-in_err-row-in-22 : goal.returns-in_err-row-in-22
unfolding in_place
returns-in_err-row-in-22 c = refused_size _ _ _ _ round_tag c.in-22.is refl refl c.in_err-row-in-22.ensures c.from_residual-in_err-row-in-22.ensures.1

pub returns-in_err-row-in-23 : goal.returns-in_err-row-in-23
unfolding in_place
returns-in_err-row-in-23 c = refused_size _ _ _ _ split_tag c.in-23.is refl refl c.in_err-row-in-23.ensures c.from_residual-in_err-row-in-23.ensures.1

pub returns-in_ok-row-in-16 : goal.returns-in_ok-row-in-16
returns-in_ok-row-in-16 c =
    let r = c.in_ok-row-in-16 in
    combine-in _ _ _ _ r.row c.in-16.is r.ensures c.line.ensures c.line-in-16.ensures c.multiplier.ensures c.multiplier-in-16.ensures

pub returns-in_ok-row-in-17 : goal.returns-in_ok-row-in-17
returns-in_ok-row-in-17 c =
    let r = c.in_ok-row-in-17 in
    rw (to_z-of_z w64 c.signed_multiplier.result (record { sfits = c.signed_multiplier.type_inv }))
    (reduce-in _ _ _ _ r.row c.in-17.is r.ensures c.line-in-17.ensures c.line-in-17-2.ensures c.signed_multiplier.ensures.is c.signed_multiplier.ensures.range)

pub returns-in_ok-row-in-18 : goal.returns-in_ok-row-in-18
returns-in_ok-row-in-18 c =
    let r = c.in_ok-row-in-18 in
    scale_in _ _ _ _ r.row r.ensures c.line-in-18.ensures c.multiplier-in-18.ensures c.in-18.is

pub returns-in_ok-row-in-19 : goal.returns-in_ok-row-in-19
returns-in_ok-row-in-19 c =
    let r = c.in_ok-row-in-19 in
    strengthen-in _ _ _ _ r.row r.ensures c.line-in-19.ensures c.in-19.is

pub returns-in_ok-row-in-20 : goal.returns-in_ok-row-in-20
returns-in_ok-row-in-20 c =
    let r = c.in_ok-row-in-20 in
    number_in _ _ _ _ r.row r.ensures c.line-in-20.ensures c.in-20.is

pub returns-in_ok-row-in-21 : goal.returns-in_ok-row-in-21
returns-in_ok-row-in-21 c =
    let r = c.in_ok-row-in-21 in
    stride-in _ _ _ _ r.row r.ensures c.line-in-21.ensures c.multiplier-in-21.ensures c.in-21.is

pub returns-in_ok-row-in-22 : goal.returns-in_ok-row-in-22
returns-in_ok-row-in-22 c =
    let r = c.in_ok-row-in-22 in
    round-in _ _ _ _ r.row c.in-22.is r.ensures c.line-in-22.ensures c.multiplier-in-22.ensures c.multiplier-in-22-2.ensures

pub returns-in_ok-row-in-23 : goal.returns-in_ok-row-in-23
returns-in_ok-row-in-23 c =
    let r = c.in_ok-row-in-23 in
    split-in _ _ _ _ r.row r.ensures c.line-in-23.ensures c.in-23.is

pub returns-in-32 : goal.returns-in-32
returns-in-32 c = claim-misplaced _ _ _ _ c.in-32.is c.if-not-made.true

pub returns-in-32-2 : goal.returns-in-32-2
returns-in-32-2 c = claim-wrong _ _ _ _ c.in-32.is c.if-not-made.false c.if-contents-k.true

pub returns-in-32-3 : goal.returns-in-32-3
returns-in-32-3 c = claim_in _ _ _ _ c.in-32.is c.if-not-made.false c.if-contents-k.false

pub returns-in-1 : goal.returns-in-1
returns-in-1 c = header_in _ _ _ _ (omega arith) (omega arith)

pub returns-in_default : goal.returns-in_default
returns-in_default c = unknown_in _ _ _ _ (λ e. omega arith) (λ e. omega arith) (λ e. omega arith) (λ e. omega arith) (λ e. omega arith) (λ e. omega arith) (λ e. omega arith) (λ e. omega arith) (λ e. omega arith) (λ e. omega arith) (λ e. omega arith)

pub returns-in_default-2 : goal.returns-in_default-2
returns-in_default-2 c = unknown_in _ _ _ _ (λ e. omega arith) (λ e. omega arith) (λ e. omega arith) (λ e. omega arith) (λ e. omega arith) (λ e. omega arith) (λ e. omega arith) (λ e. omega arith) (λ e. omega arith) (λ e. omega arith) (λ e. omega arith)
