-- What a policy allows, and the type of a key that a step gets under it: the scope's sections "Files" and "Typing of steps".
use Rattle.std.specs.Prelude.{ℕ, ◌/◌, ◌%◌, ◌^◌, Bool, ◌&&◌, List, [], ◌∷◌, eqb, ltb}
use Rattle.model.specs.Basics.{implies, every, those, up_from}
use Rattle.model.specs.Types.{typed, type_of, join, contains}
use Rattle.model.specs.declared.Ty.{Ty}
use Rattle.model.specs.declared.Ty.TheVariants.{None}
use Rattle.model.specs.declared.Step.{Step}
use Rattle.model.specs.declared.Policy.{Policy}

abbrev pub templates : List ℕ
templates = up_from 0 64

-- template m is one of the set
abbrev pub allows : ℕ → ℕ → Bool
allows set m = ltb m 64 && eqb (set / 2 ^ m % 2) 1

-- a get finds a key that is kept under m: in the typing and in a run
abbrev pub meets : Step → ℕ → Bool
meets s m = contains m s.t

-- the allowed templates that the get may find
abbrev pub offered : ℕ → Step → List ℕ
offered set s = those (λ m. allows set m && meets s m) templates

-- the join of the types of all these templates
unfoldable pub join_of : List ℕ → Ty
join_of [] = None
join_of (m ∷ ms) = join (type_of m) (join_of ms)

abbrev pub get_type : ℕ → Step → Ty
get_type set s = join_of (offered set s)

-- no allowed template has A without S
abbrev pub lawful : Policy → Bool
lawful p = every (λ m. implies (allows p.allowing m) (typed (type_of m))) templates
