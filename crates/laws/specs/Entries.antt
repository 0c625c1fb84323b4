-- What entries give arrays and structures: they ask only for uses, and of their trees is kept what is kept of the answers. Assumes nothing.
use Rattle.std.specs.Prelude.{List, ℕ, leb}
use Rattle.std.proofs.Common.{lit≤}
use Rattle.definition.specs.Syntax.{Init, Inits, inil, icons, inits_at}
use Rattle.definition.specs.Tree.{Tree, Trees, many, rest, named}
use Rattle.definition.specs.Ask.{done, gathered}
use Rattle.definition.specs.Iec.{assigned}
use Rattle.definition.specs.declared.records.Place.{Place}
use Rattle.definition.specs.Places.{field_place}
use Rattle.definition.specs.Parts.{on_fields}
use Rattle.definition.specs.Defaults as Defaults
use Rattle.definition.specs.Starting.{default_of, expand, expand_all, members, member, applied, array_of}
use Rattle.laws.specs.Cases.{on-choose}
use Rattle.laws.specs.Links.{Leads}
use Rattle.laws.specs.Whole.{lists-replaced}
use Rattle.laws.specs.Values.{leaf-constant_value, leaf-enumerated_value, leaf-expression_value}
use Rattle.laws.specs.Nearby.{Near, Below, below-near, below_field}
use Rattle.laws.specs.Gathers.{Kept, Value, Listed, Makes, Entries, Fields, value-leaf, entry-leaf, within-rest, within_none, within-gathered, within_more, within-copied, within_first, within-defaulted, gives_nothing, gives_then, gives-value, gives-structure, gives-added, gives-named, gives-fields}
use Rattle.laws.specs.Starts.{Filling, gives_array, gives-default}

module _ (K : Kept) (f : List ℕ) (N P : ℕ → Type 0) (leads : Leads f N P) where
  fields-assigned : (name : ℕ) (t : Tree) (ts : Trees) → K.Of t → K.FieldList ts → K.FieldList (assigned name t ts)
  unfolding assigned
  fields-assigned name t ts h g = lists-replaced K.fields name (named name t) ts (K.field name t h) g

  mutual
    unfolding Defaults.expand

    pub gives-expand : (i : Init) → Filling K N P (expand f i)
    gives-expand (Init.constant c) leaf defaults made size n g r =
        gives-added K P _ (many defaults) made size (leaf-constant_value (Listed K) (entry-leaf K) f leaf.shape c)
    gives-expand (Init.enumerated v q) leaf defaults made size n g r =
        gives-added K P _ (many defaults) made size (leaf-enumerated_value (Listed K) (entry-leaf K) f leaf.shape v q)
    gives-expand (Init.array is) leaf defaults made size n g r = gives_nothing K P (Entries K size)
    gives-expand (Init.structure is) leaf defaults made size n g r =
        within_first P _ K.entries (Entries K size) (rest made defaults) _ (within-rest K.entries made defaults g)
        (λ base ts gb few gt. gives-added K P (on_fields base (λ fields. members f is leaf fields)) (many defaults) made size
        (gives-fields K P base (Listed K) (λ fields. members f is leaf fields) (K.entry base gb) few (λ fields gf. gives-members is leaf fields n gf)))
    gives-expand (Init.expr x) leaf defaults made size n g r =
        gives-added K P _ (many defaults) made size (leaf-expression_value (Listed K) (entry-leaf K) f leaf.shape x)
    gives-expand Init.late_bound leaf defaults made size n g r = gives_nothing K P (Entries K size)
    gives-expand (Init.repeated k i) leaf defaults made size n g r =
        on-choose (Makes K P (Entries K size)) (leb k (many defaults)) _ _
        (λ e. gives_then K P (Entries K 0) (Entries K size) (expand f i leaf (rest made defaults) 0 0) _
        (gives-expand i leaf (rest made defaults) 0 0 n (within-rest K.entries made defaults g) (lit≤ tt))
        (λ ts gt. within-copied P _ K.entries k ts (many defaults) made size gt.whole r))
        (λ e. gives_nothing K P (Entries K size))
    gives-expand (Init.defaults k) leaf defaults made size n g r =
        on-choose (Makes K P (Entries K size)) (leb k (many defaults)) _ _
        (λ e. within-defaulted P _ K.entries k (rest made defaults) (many defaults) made size (within-rest K.entries made defaults g) r)
        (λ e. gives_nothing K P (Entries K size))

    pub gives-expand_all : (is : Inits) → Filling K N P (expand_all f is)
    gives-expand_all inil leaf defaults made size n g r = within_none P _ K.entries size r
    gives-expand_all (icons name i is) leaf defaults made size n g r =
        within_more P _ K.entries made size (expand f i leaf defaults made size) _ (gives-expand i leaf defaults made size n g r)
        (λ m s q. gives-expand_all is leaf defaults m s n g q)

    pub gives-members : (is : Inits) (place : Place) (fields : Trees) → Near N P place → Fields K 0 fields → Makes K P (Listed K) (members f is place fields)
    gives-members inil place fields n g = gives-structure K P fields g
    gives-members (icons name i is) place fields n g =
        gives-named K P name fields (Listed K) _ g
        (λ current gc. gives_then K P (Below P) (Listed K) (done (field_place f place name)) _ (below_field f N P leads place name n)
        (λ inner b. gives_then K P (Value K) (Listed K) (member f i inner current) _ (gives-member i inner current b gc)
        (λ t gt. gives_then K P (Fields K 0) (Listed K) (gathered 0 (assigned name t fields)) _
        (within-gathered P _ K.fields 0 (assigned name t fields) (fields-assigned name t fields gt.good g.whole))
        (λ changed gd. gives-members is place changed n gd))))

    pub gives-member : (i : Init) (place : Place) (current : Tree) → Below P place → Value K current → Makes K P (Value K) (member f i place current)
    gives-member (Init.constant c) place current b g = leaf-constant_value (Value K) (value-leaf K) f place.shape c
    gives-member (Init.enumerated v q) place current b g = leaf-enumerated_value (Value K) (value-leaf K) f place.shape v q
    gives-member (Init.array is) place current b g =
        gives_array K f N P leads (default_of f) (gives-default K f N P leads) place (expand_all f is) (below-near f N P leads place b)
        (λ leaf defaults made size n gd r. gives-expand_all is leaf defaults made size n gd r)
    gives-member (Init.structure is) place current b g =
        gives-value K P (on_fields current (λ fields. members f is place fields))
        (gives-fields K P current (Listed K) (λ fields. members f is place fields) g.good g.few
        (λ fields gf. gives-members is place fields (below-near f N P leads place b) gf))
    gives-member (Init.expr x) place current b g = leaf-expression_value (Value K) (value-leaf K) f place.shape x
    gives-member Init.late_bound place current b g = gives_nothing K P (Value K)
    gives-member (Init.repeated k i) place current b g = gives_nothing K P (Value K)
    gives-member (Init.defaults k) place current b g = gives_nothing K P (Value K)

  -- a member list over a value
  pub gives-applied : (place : Place) (is : Inits) (base : Tree) → Near N P place → Value K base → Makes K P (Value K) (applied f place is base)
  gives-applied place is base n g =
      gives-value K P (applied f place is base)
      (gives-fields K P base (Listed K) (members f is place) g.good g.few (λ fields gf. gives-members is place fields n gf))

  pub gives-array_of : (place : Place) (first count : ℕ) → Near N P place → Makes K P (Value K) (array_of f place first count)
  unfolding Defaults.array_of
  gives-array_of place first count n =
      gives_array K f N P leads (default_of f) (gives-default K f N P leads) place (expand_all f (inits_at f first count)) n (gives-expand_all (inits_at f first count))
