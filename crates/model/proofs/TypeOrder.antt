-- The order of the types is a partial order, and the join of two types is their least upper bound: each a test that antt computes over all types.
-- Assumes nothing.
use mathlib.Core.Path.{◌≡◌, refl, sym, ap, ◌∙◌}
use lib.Dec.{T, eqb→eq}
use Rattle.model.specs.Basics.{implies}
use Rattle.model.specs.Types.{type_of_code, code_of, is, typed, below, join}
use Rattle.model.specs.declared.Ty.{Ty}
use Rattle.model.specs.declared.Ty.TheVariants.{Un, TData, Data, Wrap, Seed, Any, None}
use Rattle.model.proofs.Tests.{apply, apply₂, each, each₂, each₃}

pub code_back : (a : Ty) → type_of_code (code_of a) ≡ a
code_back Un = refl
code_back TData = refl
code_back Data = refl
code_back Wrap = refl
code_back Seed = refl
code_back Any = refl
code_back None = refl

pub is_equal : (a b : Ty) → T (is a b) → a ≡ b
is_equal a b t = sym (code_back a) ∙ ap type_of_code (eqb→eq (code_of a) (code_of b) t) ∙ code_back b

-- ---- a partial order

pub below_refl : (a : Ty) → T (typed a) → T (below a a)
below_refl a = apply (typed a) (below a a) (each (λ x. implies (typed x) (below x x)) tt a)

pub below_antisym : (a b : Ty) → T (below a b) → T (below b a) → a ≡ b
below_antisym a b h k =
    is_equal a b
    (apply₂ (below a b) (below b a) (is a b) (each₂ (λ x y. implies (below x y) (implies (below y x) (is x y))) tt a b) h k)

pub below_trans : (a b c : Ty) → T (below a b) → T (below b c) → T (below a c)
below_trans a b c =
    apply₂ (below a b) (below b c) (below a c) (each₃ (λ x y z. implies (below x y) (implies (below y z) (below x z))) tt a b c)

-- what is below something has a type
pub below_typed : (a b : Ty) → T (below a b) → T (typed a)
below_typed a b = apply (below a b) (typed a) (each₂ (λ x y. implies (below x y) (typed x)) tt a b)

-- ---- the join

-- j is above both, and below whatever is above both
pub record LeastAbove (a b j : Ty) : Type 0 where
  pub left : T (below a j)
  pub right : T (below b j)
  pub least : (c : Ty) → T (below a c) → T (below b c) → T (below j c)

-- the join with anything, a missing type too, is above a type
pub join_left : (a b : Ty) → T (typed a) → T (below a (join a b))
join_left a b = apply (typed a) (below a (join a b)) (each₂ (λ x y. implies (typed x) (below x (join x y))) tt a b)

pub join_right : (a b : Ty) → T (typed b) → T (below b (join a b))
join_right a b = apply (typed b) (below b (join a b)) (each₂ (λ x y. implies (typed y) (below y (join x y))) tt a b)

pub join_least : (a b c : Ty) → T (below a c) → T (below b c) → T (below (join a b) c)
join_least a b c =
    apply₂ (below a c) (below b c) (below (join a b) c)
    (each₃ (λ x y z. implies (below x z) (implies (below y z) (below (join x y) z))) tt a b c)

pub join_is_least_above : (a b : Ty) → T (typed a) → T (typed b) → LeastAbove a b (join a b)
join_is_least_above a b h k = record { left = join_left a b h; right = join_right a b k; least = join_least a b }
