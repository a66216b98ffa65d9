-- `panel::read_full` meets its contract: what each read gives stands after what was read before.
-- Assumes nothing.
use Rattle.std.proofs.Common.{◌≡◌, ◌+◌, ◌-◌, ◌≤◌, List, ℕ, ◌++◌, length, take, rules, subst, sym, ap, ◌∙◌, length-take-le}
use Rattle.std.proofs.lemmas.List.{take-append-le}
use Rattle.std.proofs.KnownBytes.{Consumes-trans}
use Rattle.std.specs.Io.KnownBytes.{Consumes}
use borrow.Rule.Slice.PartMut.{put_mid, post_of}
use lib.Seq.{take-append-add}
use Rattle.panel.proofs.read_full.Goals as goal

-- the front of a buffer of which the part from `a` on was written anew
take_written : (a k n : ℕ) (xs ys : List ℕ) → a ≤ length xs → n ≤ length ys → take (a + n) (put_mid a k xs ys) ≡ take a xs ++ take n ys
take_written a k n xs ys within fits =
    let front = take a xs in
    let long : length front ≡ a = length-take-le a xs within in
    ap (λ m. take (m + n) (put_mid a k xs ys)) (sym long) ∙ take-append-add front (ys ++ post_of a k xs) n
    ∙ ap (λ l. front ++ l) (take-append-le n ys (post_of a k xs) fits)

pub loop-done-preserved : goal.loop-done-preserved
loop-done-preserved g c =
    let loop = c.loop-done in
    let read = c.in_ok-n.ensures in
    let room = length loop.buffer - loop.done in
    let front = take_written loop.done room c.in_ok-n.n loop.buffer c.read.new.buf loop.invariant.in_range read.bound.0 in
    record {
      in_range = search rules;
      consumed = subst (Consumes _ _) (sym front) (Consumes-trans _ _ _ _ _ loop.invariant.consumed read.bytes.0);
    }
