-- `token::Token::generate` meets its contract: no place or no row for the handle, no row for the key, and a key that is kept.
-- Assumes nothing.
use native.Mathlib.Omega.{arith}
use Rattle.std.proofs.lemmas.Result.{err_from_is_err_and}
use Rattle.token.proofs.Appearing.{atom_given}
use Rattle.token.proofs.Chaining.{halts}
use Rattle.token.proofs.Storing.{handle_given, generate_stops, generate_stops_later, generates}
use Rattle.token.proofs.Token.generate.Goals as goal

pub returns-in_err-h-clause-performed : goal.returns-in_err-h-clause-performed
returns-in_err-h-clause-performed c =
    let kept = c.new_handle.ensures.keys_kept in
    let told = err_from_is_err_and c.from_residual.result c.from_residual.ensures.1 in
    λ σ S.
    rw (told.1, told.2, kept.0, kept.1)
    (generate_stops S.carries S.few_atoms S.counts_are c.in_err-h.ensures.made _ (halts _ _))

pub new_atom-requires : goal.new_atom-requires
new_atom-requires c =
    let ready = c.requires in
    let same = c.new_handle.ensures.same_tables in
    let handle = handle_given c.in_ok-h.ensures.made in
    omega arith

pub returns-in_err-k-clause-performed : goal.returns-in_err-k-clause-performed
returns-in_err-k-clause-performed c =
    let kept = c.new_handle.ensures.keys_kept in
    let kept_again = c.new_atom.ensures.keys_kept in
    let told = err_from_is_err_and c.from_residual-in_err-k.result c.from_residual-in_err-k.ensures.1 in
    λ σ S.
    rw (told.1, told.2, kept_again.0, kept_again.1, kept.0, kept.1)
    (generate_stops_later S.carries S.few_atoms S.counts_are c.in_ok-h.ensures.made c.in_err-k.ensures.made _ (halts _ _))

pub keep-requires : goal.keep-requires
keep-requires c =
    let ready = c.requires in
    let same = c.new_handle.ensures.same_tables in
    let same_again = c.new_atom.ensures.same_tables in
    let handle = handle_given c.in_ok-h.ensures.made in
    let key = atom_given c.in_ok-k.ensures.made.answer in
    omega arith

pub returns-clause-performed : goal.returns-clause-performed
returns-clause-performed c =
    let byte = c.ranges.t in
    let kept = c.new_handle.ensures.keys_kept in
    let kept_again = c.new_atom.ensures.keys_kept in
    λ σ S.
    rw c.keep.ensures.rows_kept
    (generates S.carries S.few_atoms S.counts_are c.in_ok-h.ensures.made c.in_ok-k.ensures.made (omega arith)
    (rw (kept_again.0, kept_again.1, kept.0, kept.1) at c.keep.ensures.kept))
