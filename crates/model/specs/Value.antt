-- Values as trees, what is computed from them, and their rows: the scope's section "The token and the attacker", first paragraph.
use Rattle.std.specs.Prelude.{ℕ, Bool, true, false, cond, List, [], ◌∷◌, ltb, get_or, length}
use Rattle.std.proofs.Math.Bool.{decide}
use Rattle.std.proofs.Math.Decide.{ℕ_discrete}
use Rattle.model.specs.Basics.{index_by}
use Rattle.model.specs.declared.Operation.{Operation}
use Rattle.model.specs.declared.Operation.TheVariants.{Encrypt, Decrypt, Derive}

-- a constant, a fresh atom, an encryption, an undone encryption: the second part is the key; what is derived under a label
pub data Value : Type 0 where
  const fresh : ℕ → Value
  enc dec : Value → Value → Value
  div : ℕ → Value → Value
  deriving Discrete as value-discrete

-- equal values are the same tree
unfoldable pub same : Value → Value → Bool
unfolding decide ℕ_discrete
same v w = decide (value-discrete ℕ_discrete v w)

abbrev pub is_const : Value → Bool
is_const (const n) = true
is_const (fresh n) = false
is_const (enc v k) = false
is_const (dec v k) = false
is_const (div l v) = false

-- decrypting enc(v,k) under k gives v; every other decryption is a value of its own, and no failure is seen
abbrev pub decrypt : Value → Value → Value
decrypt (const n) k = dec (const n) k
decrypt (fresh n) k = dec (fresh n) k
decrypt (enc v l) k = cond (same l k) v (dec (enc v l) k)
decrypt (dec v l) k = dec (dec v l) k
decrypt (div l v) k = dec (div l v) k

abbrev pub value_at : List Value → ℕ → Value
value_at vs i = get_or vs i (const 0)

-- what an operation makes of its operands: the first one, under the second; or from its only one
abbrev pub compute : Operation → List Value → Value
compute Encrypt vs = enc (value_at vs 0) (value_at vs 1)
compute Decrypt vs = decrypt (value_at vs 0) (value_at vs 1)
compute (Derive l) vs = div l (value_at vs 0)

-- the operands of a step, from the values that its fields a and b name
abbrev pub operands : Operation → Value → Value → List Value
operands Encrypt v w = v ∷ w ∷ []
operands Decrypt v w = v ∷ w ∷ []
operands (Derive l) v w = w ∷ []

-- Rows are the values in the order of their first appearance, each of them once.

-- the row of a value, or the number of rows where it has none
abbrev pub row_of : Value → List Value → ℕ
row_of v rows = index_by (same v) rows

abbrev pub present : Value → List Value → Bool
present v rows = ltb (row_of v rows) (length rows)
