-- The walk over the templates: what a get may find from one template on, in terms of what it may find from the next one on.
-- Assumes nothing.
use mathlib.Core.Path.{◌≡◌, refl}
use mathlib.Core.Bool.{Bool, true, false, cond, ◌&&◌, ◌||◌}
use mathlib.Core.List.{◌∷◌}
use Prim.Native.Nat.{ℕ, zero, suc, ◌-◌, ◌≤◌}
use native.Mathlib.Omega.{arith}
use lib.Dec.{ltb}
use lib.ListN.{length}
use borrow.Author.Tests.{lt-ltb}
use Rattle.std.proofs.Common.{add-one}
use Rattle.std.specs.List.{list_any, range_with_len}
use Rattle.model.specs.Basics.{those, up_from}
use Rattle.model.specs.Types.{type_of, join}
use Rattle.model.specs.Policy.{allows, meets, offered, get_type, join_of}
use Rattle.model.specs.declared.Step.{Step}
use Rattle.model.specs.declared.Ty.{Ty}
use Rattle.model.specs.declared.Ty.TheVariants.{None}

module _ (set : ℕ) (s : Step) where
  -- the get may find a key that is kept under template m
  abbrev pub offers : ℕ → Bool
  offers m = allows set m && meets s m

  -- of the k templates from n on
  any_of : (n k : ℕ) → list_any offers (range_with_len n k) ≡ ltb 0 (length (those offers (up_from n k)))
  unfolding those up_from
  any_of n zero = refl
  any_of n (suc k) = simp add-one (go (offers n) (any_of (suc n) k))
    where
      go : (b : Bool) → list_any offers (range_with_len (suc n) k) ≡ ltb 0 (length (those offers (up_from (suc n) k)))
          → (b || list_any offers (range_with_len (suc n) k))
          ≡ ltb 0 (length (cond b (n ∷ those offers (up_from (suc n) k)) (those offers (up_from (suc n) k))))
      go true later = rw (lt-ltb 0 (suc (length (those offers (up_from (suc n) k)))) (omega arith))
      go false later = later

  pub any_offered : list_any offers (range_with_len 0 64) ≡ ltb 0 (length (offered set s))
  any_offered = any_of 0 64

  -- the join over the templates from m on that the get may find
  unfoldable pub joined_from : ℕ → Ty
  joined_from m = join_of (those offers (up_from m (64 - m)))

  pub joined_past_last : joined_from 64 ≡ None
  unfolding joined_from those up_from join_of
  joined_past_last = refl

  pub joined_from_first : joined_from 0 ≡ get_type set s
  unfolding joined_from
  joined_from_first = refl

  -- m is the template after n, or the end
  module _ (n m : ℕ) (next : m ≡ suc n) (within : m ≤ 64) where
    from_next : up_from n (64 - n) ≡ n ∷ up_from m (64 - m)
    unfolding up_from
    from_next = let left : 64 - n ≡ suc (64 - m) = omega arith in rw (left, next)

    pub joined_with : offers n ≡ true → joined_from n ≡ join (type_of n) (joined_from m)
    unfolding joined_from those join_of
    joined_with on = rw (from_next, on)

    pub joined_without : offers n ≡ false → joined_from n ≡ joined_from m
    unfolding joined_from those
    joined_without off = rw (from_next, off)
