-- Templates and their types: the scope's section "Attributes and their types".
use Rattle.std.specs.Prelude.{ℕ, ◌/◌, ◌%◌, Bool, true, false, not, cond, ◌&&◌, ◌||◌, List, [], ◌∷◌, eqb, get_or}
use Rattle.model.specs.Basics.{implies, every}
use Rattle.model.specs.declared.Ty.{Ty}
use Rattle.model.specs.declared.Ty.TheVariants.{Un, TData, Data, Wrap, Seed, Any, None}

-- A template is a set of attributes, and a set of attributes is the sum of their weights:
-- S sensitive 1, A always-sensitive 2, E encrypt 4, D decrypt 8, W wrap 16, U unwrap 32.
abbrev pub has : ℕ → ℕ → Bool
has t weight = eqb (t / weight % 2) 1

abbrev pub sensitive : ℕ → Bool
sensitive t = has t 1

abbrev pub always_sensitive : ℕ → Bool
always_sensitive t = has t 2

abbrev pub data_role : ℕ → Bool
data_role t = has t 4 || has t 8

abbrev pub wrap_role : ℕ → Bool
wrap_role t = has t 16 || has t 32

-- the template t contains all attributes of the set s
abbrev pub contains : ℕ → ℕ → Bool
contains t s = every (λ w. implies (has s w) (has t w)) (1 ∷ 2 ∷ 4 ∷ 8 ∷ 16 ∷ 32 ∷ [])

-- the types in the order of their codes, 0 to 5
abbrev pub types : List Ty
types = Un ∷ TData ∷ Data ∷ Wrap ∷ Seed ∷ Any ∷ []

abbrev pub type_of_code : ℕ → Ty
type_of_code n = get_or types n None

abbrev pub code_of : Ty → ℕ
code_of Un = 0
code_of TData = 1
code_of Data = 2
code_of Wrap = 3
code_of Seed = 4
code_of Any = 5
code_of None = 6

abbrev pub is : Ty → Ty → Bool
is a b = eqb (code_of a) (code_of b)

abbrev pub typed : Ty → Bool
typed a = not (is a None)

-- the table's rule, by S, A, data role and wrap role
abbrev pub type_by : Bool → Bool → Bool → Bool → Ty
type_by false true d w = None
type_by false false d w = Un
type_by true false true false = Data
type_by true false true true = Any
type_by true false false true = Any
type_by true false false false = Any
type_by true true true false = TData
type_by true true false true = Wrap
type_by true true true true = Seed
type_by true true false false = Seed

abbrev pub type_of : ℕ → Ty
type_of t = type_by (sensitive t) (always_sensitive t) (data_role t) (wrap_role t)

-- the pairs of different types that are ordered
abbrev pub under : Ty → Ty → Bool
under a b =
    ((is a Un || is a TData) && is b Data)
    || ((is a Data || is a Wrap || is a Seed) && is b Any)
    || ((is a Un || is a TData) && is b Any)

abbrev pub below : Ty → Ty → Bool
below a b = typed a && (is a b || under a b)

-- the first type of a list that is above both
abbrev pub first_above : Ty → Ty → List Ty → Ty
first_above a b [] = None
first_above a b (c ∷ cs) = let later = first_above a b cs in cond (below a c && below b c) c later

-- the lowest type above both: codes rise along the order, so it is the first of them; `None` adds nothing to a join
abbrev pub join : Ty → Ty → Ty
join a b = cond (typed a) (cond (typed b) (first_above a b types) a) b
