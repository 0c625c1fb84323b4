-- What a place starts with by itself: it asks only for uses, and of its tree is kept what is kept of the answers. Assumes nothing.
use mathlib.Core.List.{List, [], ◌∷◌}
use Prim.Native.Nat.{ℕ, zero, suc, ◌≤◌}
use Rattle.std.proofs.Common.{lit≤}
use Rattle.definition.specs.Layout.{count, shapes}
use Rattle.definition.specs.Accept.{elements_of}
use Rattle.definition.specs.Tree.{Trees, most_nodes}
use Rattle.definition.specs.Ask.{done, ◌>>=◌, type_default}
use Rattle.definition.specs.Iec.{filled}
use Rattle.definition.specs.Scalar.{built_in}
use Rattle.definition.specs.declared.records.Place.{Place}
use Rattle.definition.specs.Places.{element_place, leaf_place, field_place, names_in, block_field_names}
use Rattle.definition.specs.Parts.{Starts, flat, element_defaults, Fills, array_by, field, fields_by, structured, default_by}
use Rattle.definition.specs.Defaults as Defaults
use Rattle.definition.specs.Starting.{implicit_by, implicit_up_to, implicit, default_of}
use Rattle.laws.specs.Cases.{on-stated, on_shape_lem}
use Rattle.laws.specs.Links.{link-to, Leads}
use Rattle.laws.specs.Nearby.{Near, Below, below-near, below-element, near-leaf, below_field}
use Rattle.laws.specs.Whole.{lists_filled}
use Rattle.laws.specs.Values.{any-ok, leaf-built_in}
use Rattle.laws.specs.Gathers.{Kept, Value, Makes, Entries, Fields, value-leaf, within_none, within_more, within-repeated, gives_nothing, gives_then, gives-formed, gives-field, gives-structured}

-- the default of a type that may be asked for
pub gives-type : (K : Kept) (P : ℕ → Type 0) (d : ℕ) → P d → Makes K P (Value K) (type_default d)
unfolding type_default
gives-type K P d p = (p, λ o w. w)

-- how the places below start
abbrev pub Starting : Kept → (P : ℕ → Type 0) → Starts → Type 0
Starting K P default = (place : Place) → Below P place → Makes K P (Value K) (default place)

-- entries that give values, where places and defaults are as they should be
abbrev pub Filling : Kept → (N P : ℕ → Type 0) → Fills → Type 0
Filling K N P fill =
    (leaf : Place) (defaults : Trees) (made size : ℕ) → Near N P leaf → Entries K 0 defaults → suc size ≤ most_nodes → Makes K P (Entries K size) (fill leaf defaults made size)

module _ (K : Kept) (f : List ℕ) (N P : ℕ → Type 0) (leads : Leads f N P) where
  -- ---- where the places below start well, so does this one
  module _ (default : Starts) (start : Starting K P default) where
    pub gives_elements : (place : Place) → Near N P place → Makes K P (Entries K 0) (element_defaults f default place)
    unfolding element_defaults
    gives_elements place h =
        let no = gives_nothing K P (Entries K 0) in
        on_shape_lem (Makes K P (Entries K 0)) place.shape _ _ _ _ _ _ _ (λ a b. no) (λ a b. no) (λ a b. no)
        (λ s first count. gives_then K P (Value K) (Entries K 0) (default (element_place f place s)) _
        (start (element_place f place s) (below-element f N P leads place s h))
        (λ t g. within-repeated P _ K.entries (elements_of f first count) (flat t) (K.flat t g.good))) no no no

    pub gives_array : (place : Place) (fill : Fills) → Near N P place → Filling K N P fill → Makes K P (Value K) (array_by f default place fill)
    unfolding array_by
    gives_array place fill h k =
        gives_then K P (Entries K 0) (Value K) (element_defaults f default place) _ (gives_elements place h)
        (λ ts g. gives_then K P (Entries K 0) (Value K) (fill (leaf_place f place) ts 0 0) _ (k (leaf_place f place) ts 0 0 (near-leaf f N P leads place h) g (lit≤ tt))
        (λ us r. gives-formed K P (filled ts us) (lists_filled K.entries ts us g.whole r.whole)))

    pub gives-fields_by : (place : Place) (names : List ℕ) (made size : ℕ) → Near N P place → suc size ≤ most_nodes
        → Makes K P (Fields K size) (fields_by f default place names made size)
    unfolding fields_by
    gives-fields_by place [] made size h r = within_none P _ K.fields size r
    gives-fields_by place (name ∷ names) made size h r =
        within_more P _ K.fields made size _ (fields_by f default place names)
        (gives_then K P (Value K) (Fields K size) (done (field_place f place name) >>= default) (field size name)
        (gives_then K P (Below P) (Value K) (done (field_place f place name)) default (below_field f N P leads place name h) start)
        (λ t g. gives-field K P size name t g.good))
        (λ m s q. gives-fields_by place names m s h q)

    pub gives-implicit_by : (place : Place) → Near N P place → Makes K P (Value K) (implicit_by f default place)
    unfolding Defaults.implicit_by
    gives-implicit_by place h =
        let single : Makes K P (Value K) (done (built_in f place.shape)) = leaf-built_in (Value K) (value-leaf K) f place.shape in
        let fields : (names : List ℕ) → Makes K P (Value K) (structured (fields_by f default place names)) =
        λ names. gives-structured K P (fields_by f default place names) (gives-fields_by place names 0 0 h (lit≤ tt)) in
        on_shape_lem (Makes K P (Value K)) place.shape _ _ _ _ _ _ _
        (λ length width. single)
        (λ first many. single)
        (λ first many. fields (names_in f first many))
        (λ s first many. gives_array place _ h (λ leaf defaults made size n g r. within_none P _ K.entries size r))
        (gives_then K P (λ names. Unit {0}) (Value K) (done (block_field_names f place)) _ (any-ok (block_field_names f place)) (λ names u. fields names))
        single
        single

  -- ---- the default of a place
  gives-default_by : (inner : Starts) → ((place : Place) → Near N P place → Makes K P (Value K) (inner place)) → Starting K P (default_by inner)
  unfolding default_by
  gives-default_by inner k place b =
      on-stated (Makes K P (Value K)) place.id (λ u. inner place) type_default (k place (below-near f N P leads place b))
      (λ d e. gives-type K P d (link-to P place.id d e b.type))

  gives-implicit_up_to : (k : ℕ) (place : Place) → Near N P place → Makes K P (Value K) (implicit_up_to f k place)
  unfolding Defaults.implicit_up_to
  gives-implicit_up_to zero place h = gives_nothing K P (Value K)
  gives-implicit_up_to (suc k) place h = gives-implicit_by (default_by (implicit_up_to f k)) (gives-default_by (implicit_up_to f k) (gives-implicit_up_to k)) place h

  pub gives-implicit : (place : Place) → Near N P place → Makes K P (Value K) (implicit f place)
  unfolding Defaults.implicit
  gives-implicit place h = gives-implicit_up_to (suc (count f shapes)) place h

  pub gives-default : Starting K P (default_of f)
  unfolding Defaults.default_of
  gives-default place b = gives-default_by (implicit f) gives-implicit place b
