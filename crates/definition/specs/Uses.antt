-- Which types a type uses (document 01, the start sheet), and ranks that rise along every use.
use Rattle.std.specs.Prelude.{Bool, List, [], ◌∷◌, ◌++◌, ℕ, zero, suc, max, eqb, leb, get_or, replicate}
use Rattle.definition.specs.declared.records.Declaration.{Declaration}
use Rattle.definition.specs.declared.records.Declaration.TheVariants as decl
use Rattle.definition.specs.Base.{pick, on_link, every, inline}
use Rattle.definition.specs.Layout.{word, count, types, block_fields, elements, variables, initializers}
use Rattle.definition.specs.Records.{alias_base, element_type, referenced_type, declaration_at, named_type}

-- a link to a type
unfoldable pub linked : ℕ → List ℕ
linked l = on_link l [] (λ t. t ∷ [])

-- a name, which may be inline
unfoldable pub named_use : ℕ → List ℕ
named_use w = pick (eqb w inline) [] (linked w)

-- an initializer names a type and, for an array spelled in place, an element type
unfoldable pub initializer_uses : List ℕ → ℕ → List ℕ
initializer_uses f i = named_use (named_type f i) ++ linked (word f initializers i 2)

unfoldable pub element_uses : List ℕ → ℕ → ℕ → List ℕ
element_uses f e zero = []
element_uses f e (suc k) = initializer_uses f (word f elements e 1) ++ element_uses f (suc e) k

unfoldable pub variable_uses : List ℕ → ℕ → ℕ → List ℕ
variable_uses f v zero = []
variable_uses f v (suc k) = linked (word f variables v 2) ++ initializer_uses f (word f variables v 3) ++ variable_uses f (suc v) k

unfoldable pub block_field_uses : List ℕ → ℕ → ℕ → List ℕ
block_field_uses f k zero = []
block_field_uses f k (suc n) = linked (word f block_fields k 1) ++ block_field_uses f (suc k) n

-- what the declaration leads to; in declaration 6 the named type only where it is not the referenced type
unfoldable pub declaration_uses : List ℕ → ℕ → Declaration → List ℕ
declaration_uses f t decl.Nothing = []
declaration_uses f t (decl.Simple start) = on_link start [] (initializer_uses f)
declaration_uses f t (decl.Subrange name start) = named_use name
declaration_uses f t (decl.String start) = []
declaration_uses f t (decl.Array name first many) = named_use name
declaration_uses f t (decl.Structure first many) = element_uses f first many
declaration_uses f t (decl.Reference name) = pick (eqb name (referenced_type f t)) [] (linked name)
declaration_uses f t (decl.Enumeration name) = linked name
declaration_uses f t (decl.LateBound name) = linked name
declaration_uses f t (decl.FunctionBlock first many) = variable_uses f first many
declaration_uses f t decl.Unknown = []

-- the block fields of a type's own record
unfoldable pub block_uses : List ℕ → ℕ → List ℕ
block_uses f t = block_field_uses f (word f types t 9) (word f types t 10)

unfoldable pub uses : List ℕ → ℕ → List ℕ
uses f t = linked (alias_base f t) ++ linked (element_type f t) ++ declaration_uses f t (declaration_at f t) ++ block_uses f t

-- ---- ranks
-- r, raised above the rank of each type of a list
unfoldable pub raise : (ℕ → ℕ) → ℕ → List ℕ → ℕ
raise rank r [] = r
raise rank r (d ∷ l) = raise rank (max r (suc (rank d))) l

-- g at i, i + 1, ..
unfoldable pub table : (ℕ → ℕ) → ℕ → ℕ → List ℕ
table g i zero = []
table g i (suc n) = g i ∷ table g (suc i) n

unfoldable pub rank_at : List ℕ → ℕ → ℕ
rank_at ranks t = get_or ranks t 0

-- every type at once raised above what it uses, so many times
unfoldable pub rounds : ℕ → (ℕ → List ℕ) → ℕ → List ℕ
rounds n used zero = replicate n 0
rounds n used (suc k) = let w : List ℕ = rounds n used k in table (λ t. raise (rank_at w) 0 (used t)) 0 n

-- whether ranks rise along every use (refusal 12)
unfoldable pub rising : ℕ → (ℕ → List ℕ) → (ℕ → ℕ) → Bool
rising n used rank = every (λ t. leb (raise rank 0 (used t)) (rank t)) n

pub data Ranking : Type 0 where
  ranked : List ℕ → Ranking
  circle : Ranking

-- the lowest ranks that rise along every use: what as many rounds as types give, if they rise (refusal 9 if not)
unfoldable pub ranking : ℕ → (ℕ → List ℕ) → Ranking
ranking n used = let w : List ℕ = rounds n used n in pick (rising n used (rank_at w)) (ranked w) circle

unfoldable pub ranks_of : List ℕ → Ranking
ranks_of f = ranking (count f types) (uses f)

-- what this file computes with
unfoldable pub opened : Unit {0}
unfolding linked named_use initializer_uses element_uses variable_uses block_field_uses declaration_uses block_uses uses raise table rank_at rounds rising ranking ranks_of
opened = tt
