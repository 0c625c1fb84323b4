-- What a type's default asks for: any type at all, or, in an accepted file with ranks that rise along every use, types of lower rank. Assumes nothing.
use Rattle.std.specs.Prelude.{◌≡◌, List, ℕ, ◌≤◌, ◌<◌}
use Rattle.std.proofs.Common.{arith}
use Rattle.definition.specs.Layout.{word, count, types, variables}
use Rattle.definition.specs.Records.{named_type}
use Rattle.definition.specs.Accept.{verdict}
use Rattle.definition.specs.Starting.{body, declaration}
use Rattle.definition.specs.Uses.{uses}
use Rattle.laws.specs.Every.{Each, each_two}
use Rattle.laws.specs.Links.{Leads, each-any, link-any}
use Rattle.laws.specs.Values.{Small}
use Rattle.laws.specs.Gathers.{Kept, Value, Makes, Gives, wholes}
use Rattle.laws.specs.Meaning.{gives-declaration, body-asks}
use Rattle.laws.specs.Accepted.{accepted, variable-points}
use Rattle.laws.specs.Used.{IsType, uses-inside, named-use, leads-inside}

-- ---- with neither acceptance nor ranks
leads_any : (f : List ℕ) → Leads f (λ d. Unit {0}) (λ d. Unit {0})
leads_any f = record { near = λ t p. tt; steps = λ t n. each-any (λ d. Unit {0}) (uses f t) (λ d. tt); names = λ t i n e k. link-any (λ d. Unit {0}) (named_type f i) (λ d. tt) }

-- whatever is kept of every tree
pub kept-body : (K : Kept) (f : List ℕ) (t : ℕ) → Makes K (λ d. Unit {0}) (Value K) (body f t)
kept-body K f t = body-asks K f (λ d. Unit {0}) (λ d. Unit {0}) (leads_any f) t tt

pub kept-declaration : (K : Kept) (f : List ℕ) (v : ℕ) → Makes K (λ d. Unit {0}) (Value K) (declaration f v)
kept-declaration K f v = gives-declaration K f (λ d. Unit {0}) (λ d. Unit {0}) (leads_any f) v (link-any (λ d. Unit {0}) (word f variables v 2) (λ d. tt))

pub any-body : (f : List ℕ) (t : ℕ) → Gives (λ d. Unit {0}) Small (body f t)
any-body = kept-body wholes

pub any-declaration : (f : List ℕ) (v : ℕ) → Gives (λ d. Unit {0}) Small (declaration f v)
any-declaration = kept-declaration wholes

-- ---- in an accepted file
-- each use of a type has a lower rank
abbrev pub Rises : List ℕ → (ℕ → ℕ) → Type 0
Rises f rank = (t : ℕ) → t < count f types → Each (λ d. rank d < rank t) (uses f t)

module _ (f : List ℕ) (e : verdict f ≡ 0) where
  pub declaration-asks : (v : ℕ) → v < count f variables → Gives (λ d. d < count f types) Small (declaration f v)
  declaration-asks v h = gives-declaration wholes f (IsType f) (IsType f) (leads-inside f (accepted f e)) v (variable-points f (accepted f e) v h).0

  module _ (rank : ℕ → ℕ) (rises : Rises f rank) where
    -- what a type of at most this rank uses has a lower one
    falls : (t d : ℕ) → d < count f types → rank d ≤ rank t → Each (λ c. (c < count f types) × (rank c < rank t)) (uses f d)
    falls t d h r =
        each_two (λ c p q. (p, omega (arith, q))) (uses f d) (uses-inside f (accepted f e) d h) (rises d h)

    leads-falling : (t : ℕ) → Leads f (λ d. (d < count f types) × (rank d ≤ rank t)) (λ d. (d < count f types) × (rank d < rank t))
    leads-falling t =
        record {
          near = λ d p. (p.0, omega (arith, p.1));
          steps = λ d n. falls t d n.0 n.1;
          names = λ d i n q k. named-use f (accepted f e) _ d i n.0 (falls t d n.0 n.1) q k;
        }

    pub body-falls : (t : ℕ) → t < count f types → Gives (λ d. (d < count f types) × (rank d < rank t)) Small (body f t)
    body-falls t h = body-asks wholes f _ _ (leads-falling t) t (h, omega arith)
