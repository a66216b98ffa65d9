-- A part of a table filled with zeros, up to where the zeros began: the zeros begin where the part does.
-- Assumes nothing.
use Prim.Native.Nat.{ℕ, ◌-◌, ◌≤◌}
use mathlib.Core.Path.{◌≡◌, ap, ◌∙◌, subst}
use mathlib.Core.List.{List, ◌++◌}
use native.Mathlib.Omega.{arith}
use lib.ListN.{length, take, drop, replicate, length-append, length-replicate, length-drop}
use lib.Seq.{length-take-le, drop-append_seam, drop-drop}
use Rattle.std.proofs.lemmas.List.{replicate-append-replicate}
use Rattle.model.specs.Tables.{padded}
use Rattle.values.specs.Forgetting.{Forgets}

module _ (t : List ℕ) (from to : ℕ) (le : from ≤ to) (fits : to ≤ length t) where
  after_part : drop (to - from) (drop from t) ≡ drop to t
  after_part = drop-drop (to - from) from t ∙ ap (λ n. drop n t) (omega arith)

  zeros_after_cut : t ≡ padded (length t) (take to t) → drop to t ≡ replicate (length t - to) 0
  unfolding padded
  zeros_after_cut e =
      let rest : List ℕ = replicate (length t - to) 0 in
      let long = length-take-le to t fits in
      ap (drop to) (rw long at e) ∙ subst (λ n. drop n (take to t ++ rest) ≡ rest) long (drop-append_seam (take to t) rest)

  part_forgotten : Forgets from to t (take from t ++ (replicate (to - from) 0 ++ drop to t))
  unfolding padded
  part_forgotten =
      let before : length (take from t) ≡ from = length-take-le from t (omega arith) in
      record {
        length_kept = simp (length-append, length-replicate, length-drop, before) (omega arith);
        cut = λ e.
            rw (zeros_after_cut e, replicate-append-replicate, before) (ap (λ n. take from t ++ replicate n 0) (omega arith));
      }

  -- the part from a on and below b, filled with zeros
  pub forgets_by_fill : (a b : ℕ) → a ≡ from → b ≡ to → (filled : List ℕ)
      → filled ≡ replicate (length (take (b - a) (drop a t))) 0 → Forgets from to t (take a t ++ (filled ++ drop (b - a) (drop a t)))
  forgets_by_fill a b e f filled zero =
      let part : length (take (to - from) (drop from t)) ≡ to - from =
      length-take-le (to - from) (drop from t) (omega (arith, length-drop from t)) in
      rw (zero, e, f, part, after_part) part_forgotten
