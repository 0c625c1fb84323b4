-- Small things that every file of the definition uses.
use Rattle.std.specs.Prelude.{Bool, true, false, ◌&&◌, List, [], ◌∷◌, ℕ, zero, suc, ◌+◌, ◌*◌, ◌^◌, eqb}

abbrev pub pick : {A : Type 0} → Bool → A → A → A
pick true a b = a
pick false a b = b

-- the same, where only the chosen one is computed
abbrev pub choose : {A : Type 0} → Bool → (Unit {0} → A) → (Unit {0} → A) → A
choose true a b = a tt
choose false a b = b tt

-- a link is 1 plus a record's number, or 0 for none
abbrev pub on_link : {A : Type 0} → ℕ → A → (ℕ → A) → A
on_link zero a f = a
on_link (suc n) a f = f n

-- the first of two links that is one
abbrev pub or_else : ℕ → ℕ → ℕ
or_else zero b = b
or_else (suc a) b = suc a

-- a test of every number below a count
unfoldable pub every : (ℕ → Bool) → ℕ → Bool
every p zero = true
every p (suc n) = every p n && p n

-- words that a record does not use are 0
unfoldable pub unused : List ℕ → Bool
unused [] = true
unused (w ∷ ws) = eqb w 0 && unused ws

-- a 64-bit quantity has the low word first
unfoldable pub joined : ℕ → ℕ → ℕ
joined low high = low + high * 2 ^ 32

-- the word that stands for "inline" in a named type, and for "no block record"
abbrev pub inline : ℕ
inline = 4294967295

-- what this file computes with
unfoldable pub opened : Unit {0}
unfolding every unused joined
opened = tt
