-- The nodes of a variable's tree stand at shapes of the file, so that in an accepted file they have the sizes that reading back asks for. Assumes nothing.
use Rattle.std.specs.Prelude.{◌≡◌, List, [], ◌∷◌, ◌++◌, eqb}
use Rattle.std.proofs.Math.Path.{refl}
use Rattle.std.proofs.Common.{sym, ◌∙◌, arith}
use Prim.Native.Nat.{ℕ, zero, suc, ◌+◌, ◌^◌, ◌<◌}
use Rattle.definition.specs.declared.records.Shape.{Shape}
use Rattle.definition.specs.declared.records.Shape.TheVariants as shape
use Rattle.definition.specs.declared.records.Place.{Place}
use Rattle.definition.specs.Base.{on_link, inline}
use Rattle.definition.specs.Layout.{word, count, shapes, shape_fields, types, variables, initializers}
use Rattle.definition.specs.Records.{type_shape, initializer_kind}
use Rattle.definition.specs.Tree.{Tree, Trees, node, tnil, tcons, head, flatten, flatten_all}
use Rattle.definition.specs.Ask.{Result, ok, none, large}
use Rattle.definition.specs.Shapes.{on_shape}
use Rattle.definition.specs.Places.{bare, place_of, typed_place, element_place, innermost, leaf_place, first_named, block_field_type, field_declaration, structure_field_place, field_place, string_place, variable_place}
use Rattle.laws.specs.Asks.{OnOk}
use Rattle.laws.specs.Cases.{on-pick, on-link, on_shape_lem}
use Rattle.laws.specs.Every.{Each}
use Rattle.laws.specs.Links.{Link, link-to, each-apart}
use Rattle.laws.specs.Accepted.{Accepted, type-points, number-in, variable-points}
use Rattle.laws.specs.Pointed.{ShapePointed, shape-pointed, named-of}
use Rattle.laws.specs.Used.{IsType, leads-inside}
use Rattle.laws.specs.Nearby.{Near, Below, placed-bare, below-near, below-element, block-field, below_field, below-variable}
use Rattle.memory_definition.specs.Cells.{Cell, nowhere, place_or, part_place, cells, cells_in, variable_cells}
use Rattle.memory_laws.specs.Same.{SizedAll}
use Rattle.memory_laws.specs.AcceptedSizes.{Shaped, listed, string, ShapedAll, WordsAll, sized-all}
use Rattle.memory_laws.specs.AcceptedSizes as sizes

-- ---- one kind of shape apart from the others, with what the shape is where its parts matter
on-parts : {A : Type 0} (P : A → Type 0) (v : Shape) (s e t : ℕ → ℕ → A) (a : ℕ → ℕ → ℕ → A) (b r o : Unit {0} → A)
    → ((x y : ℕ) → P (s x y)) → ((x y : ℕ) → P (e x y)) → ((x y : ℕ) → v ≡ shape.Structure x y → P (t x y)) → ((x y z : ℕ) → v ≡ shape.Array x y z → P (a x y z))
    → P (b tt) → P (r tt) → P (o tt) → P (on_shape v s e t a b r o)
on-parts P shape.Bool s e t a b r o ps pe pt pa pb pr po = po
on-parts P (shape.Int bits) s e t a b r o ps pe pt pa pb pr po = po
on-parts P (shape.UInt bits) s e t a b r o ps pe pt pa pb pr po = po
on-parts P (shape.Real bits) s e t a b r o ps pe pt pa pb pr po = po
on-parts P (shape.Bytes bits) s e t a b r o ps pe pt pa pb pr po = po
on-parts P (shape.Time bits) s e t a b r o ps pe pt pa pb pr po = po
on-parts P (shape.Date bits) s e t a b r o ps pe pt pa pb pr po = po
on-parts P (shape.TimeOfDay bits) s e t a b r o ps pe pt pa pb pr po = po
on-parts P (shape.DateAndTime bits) s e t a b r o ps pe pt pa pb pr po = po
on-parts P (shape.String length width) s e t a b r o ps pe pt pa pb pr po = ps length width
on-parts P (shape.Enumeration first count default underlying) s e t a b r o ps pe pt pa pb pr po = pe first count
on-parts P (shape.Structure first count) s e t a b r o ps pe pt pa pb pr po = pt first count refl
on-parts P (shape.Array element first count) s e t a b r o ps pe pt pa pb pr po = pa element first count refl
on-parts P (shape.Subrange base low high) s e t a b r o ps pe pt pa pb pr po = po
on-parts P (shape.FunctionBlock name) s e t a b r o ps pe pt pa pb pr po = pb
on-parts P (shape.Interface name) s e t a b r o ps pe pt pa pb pr po = po
on-parts P (shape.Reference target) s e t a b r o ps pe pt pa pb pr po = pr
on-parts P shape.Unknown s e t a b r o ps pe pt pa pb pr po = po

module _ (f : List ℕ) (a : Accepted f) where
  -- ---- the shapes of parts
  element-in : (v : Shape) → Shaped f v → (s x y : ℕ) → v ≡ shape.Array s x y → s < count f shapes
  element-in v (listed n h e) s x y q =
      let p : ShapePointed f n (shape.Array s x y) = rw (sym e ∙ q) at (shape-pointed f a n h) in
      omega (arith, p.0)
  element-in v (string l w e) s x y q = let z : ◌≡◌ {A = ℕ} 0 1 = cc in absurd (omega arith)
  element-in v (sizes.nowhere e) s x y q = let z : ◌≡◌ {A = ℕ} 0 1 = cc in absurd (omega arith)

  fields_in : (v : Shape) → Shaped f v → (x y : ℕ) → v ≡ shape.Structure x y → (name : ℕ) → Link (λ k. word f shape_fields k 1 < count f shapes) (first_named f shape_fields name x y)
  fields_in v (listed n h e) x y q name =
      let p : ShapePointed f n (shape.Structure x y) = rw (sym e ∙ q) at (shape-pointed f a n h) in
      named-of f shape_fields name (λ k. word f shape_fields k 1 < count f shapes) x y (λ j l. below n h (p.1 j l))
    where
      below : {m : ℕ} (n : ℕ) → n < count f shapes → m < n → m < count f shapes
      below n h l = omega arith
  fields_in v (string l w e) x y q name = let z : ◌≡◌ {A = ℕ} 0 1 = cc in absurd (omega arith)
  fields_in v (sizes.nowhere e) x y q name = let z : ◌≡◌ {A = ℕ} 0 1 = cc in absurd (omega arith)

  -- ---- places: their shapes are the file's, and their types are types of the file
  abbrev ShapedPlace : Place → Type 0
  ShapedPlace p = Shaped f p.shape

  record In (p : Place) : Type 0 where
    shape : Shaped f p.shape
    near : Near (IsType f) (IsType f) p

  shape-of-type : (t : ℕ) → t < count f types → Shaped f (place_of f t).shape
  unfolding place_of type_shape
  shape-of-type t h = listed (word f types t 0) (number-in f shapes (word f types t 0) (type-points f a t h).shape) refl

  in-nowhere : In nowhere
  unfolding nowhere bare
  in-nowhere = record { shape = sizes.nowhere refl; near = placed-bare (IsType f) (IsType f) shape.Unknown }

  element-shape : (place : Place) (s : ℕ) → s < count f shapes → Shaped f (element_place f place s).shape
  unfolding element_place typed_place
  element-shape place s h = listed s h refl

  in-element : (place : Place) (s : ℕ) → In place → s < count f shapes → In (element_place f place s)
  in-element place s i h =
      record { shape = element-shape place s h; near = below-near f (IsType f) (IsType f) (leads-inside f a) (element_place f place s) (below-element f (IsType f) (IsType f) (leads-inside f a) place s i.near) }

  in-innermost : (k : ℕ) (place : Place) → In place → In (innermost f k place)
  unfolding innermost
  in-innermost zero place i = i
  in-innermost (suc k) place i =
      on-parts In place.shape _ _ _ _ _ _ _ (λ x y. i) (λ x y. i) (λ x y e. i)
      (λ s x y e. in-innermost k (element_place f place s) (in-element place s i (element-in place.shape i.shape s x y e))) i i i

  in_leaf : (place : Place) → In place → In (leaf_place f place)
  unfolding leaf_place
  in_leaf place i = in-innermost (count f shapes) place i

  -- a field of a structure or a block
  structure-shape : (place : Place) (name s : ℕ) → s < count f shapes → Shaped f (structure_field_place f place name s).shape
  unfolding structure_field_place bare typed_place
  structure-shape place name s h =
      on-link ShapedPlace (on_link place.id 0 (field_declaration f name)) _ _ (listed s h refl) (λ i e. listed s h refl)

  field-shape : (place : Place) (name : ℕ) → In place → OnOk ShapedPlace (field_place f place name)
  unfolding field_place
  field-shape place name i =
      on-parts (OnOk ShapedPlace) place.shape _ _ _ _ _ _ _ (λ x y. tt) (λ x y. tt)
      (λ x y e. on-link (OnOk ShapedPlace) (first_named f shape_fields name x y) none _ tt
      (λ k q. structure-shape place name (word f shape_fields k 1) (link-to (λ k. word f shape_fields k 1 < count f shapes) _ k q (fields_in place.shape i.shape x y e name))))
      (λ s x y e. tt)
      (on-link (OnOk ShapedPlace) place.id none _ tt
      (λ t e. on-link (OnOk ShapedPlace) (block_field_type f t name) none _ tt
      (λ d q. shape-of-type d (link-to (IsType f) _ d q (block-field f (IsType f) (IsType f) (leads-inside f a) t name (link-to (IsType f) place.id t e i.near.type))))))
      tt tt

  in-or : (r : Result Place) → OnOk ShapedPlace r → OnOk (Below (IsType f)) r → In (place_or r)
  in-or (ok p) s b = record { shape = s; near = b }
  in-or none s b = in-nowhere
  in-or large s b = in-nowhere

  in_field : (place : Place) (name : ℕ) → In place → In (place_or (field_place f place name))
  in_field place name i = in-or (field_place f place name) (field-shape place name i) (below_field f (IsType f) (IsType f) (leads-inside f a) place name i.near)

  in-part : (place : Place) (k name : ℕ) → In place → In (part_place f place k name)
  unfolding part_place
  in-part place k name i =
      on_shape_lem In place.shape _ _ _ _ _ _ _ (λ x y. in-nowhere) (λ x y. in-nowhere)
      (λ first many. on-pick In (eqb (word f shape_fields (first + k) 0) name) _ nowhere (λ e. in_field place name i) (λ e. in-nowhere))
      (λ s x y. in_leaf place i) (in_field place name i) in-nowhere in-nowhere

  variable-shape : (v i : ℕ) → Link (IsType f) (word f variables v 2) → OnOk ShapedPlace (variable_place f v i)
  unfolding variable_place string_place bare
  variable-shape v i h =
      on-pick (OnOk ShapedPlace) (eqb (initializer_kind f i) 4) (string_place f i) _
      (λ e. on-pick (OnOk ShapedPlace) (eqb (word f initializers i 6) inline) none _ (λ q. tt) (λ q. string (word f initializers i 6) (word f initializers i 7) refl))
      (λ e. on-link (OnOk ShapedPlace) (word f variables v 2) none _ tt (λ t q. shape-of-type t (link-to (IsType f) _ t q h)))

  in-variable : (v i : ℕ) → v < count f variables → In (place_or (variable_place f v i))
  in-variable v i h =
      let l : Link (IsType f) (word f variables v 2) = (variable-points f a v h).0 in
      in-or (variable_place f v i) (variable-shape v i l) (below-variable f (IsType f) (IsType f) (leads-inside f a) v i l)

-- ---- all nodes
shaped-append : (f : List ℕ) (cs ds : List Cell) → ShapedAll f cs → ShapedAll f ds → ShapedAll f (cs ++ ds)
shaped-append f [] ds g h = h
shaped-append f (c ∷ cs) ds g h = (g.0, shaped-append f cs ds g.1 h)

words_append : (cs ds : List Cell) → WordsAll cs → WordsAll ds → WordsAll (cs ++ ds)
words_append [] ds g h = h
words_append (c ∷ cs) ds g h = (g.0, words_append cs ds g.1 h)

mutual
  unfolding cells

  cells-shaped : (t : Tree) (f : List ℕ) (a : Accepted f) (place : Place) → In f a place → ShapedAll f (cells f place t)
  cells-shaped (node h ts) f a place i = (i.shape, parts-shaped ts f a place 0 i)

  parts-shaped : (ts : Trees) (f : List ℕ) (a : Accepted f) (place : Place) (k : ℕ) → In f a place → ShapedAll f (cells_in f place k ts)
  parts-shaped tnil f a place k i = tt
  parts-shaped (tcons t ts) f a place k i =
      shaped-append f (cells f (part_place f place k (head t).name) t) (cells_in f place (suc k) ts)
      (cells-shaped t f a (part_place f place k (head t).name) (in-part f a place k (head t).name i)) (parts-shaped ts f a place (suc k) i)

mutual
  unfolding cells flatten

  cells-words : (t : Tree) (f : List ℕ) (place : Place) → Each (λ w. w < 2 ^ 32) (flatten t) → WordsAll (cells f place t)
  cells-words (node h ts) f place w = (record { low = w.1.1.1.0; high = w.1.1.1.1.0 }, parts-words ts f place 0 w.1.1.1.1.1.1)

  parts-words : (ts : Trees) (f : List ℕ) (place : Place) (k : ℕ) → Each (λ w. w < 2 ^ 32) (flatten_all ts) → WordsAll (cells_in f place k ts)
  parts-words tnil f place k w = tt
  parts-words (tcons t ts) f place k w =
      let x = each-apart (λ w. w < 2 ^ 32) (flatten t) (flatten_all ts) w in
      words_append (cells f (part_place f place k (head t).name) t) (cells_in f place (suc k) ts)
      (cells-words t f (part_place f place k (head t).name) x.0) (parts-words ts f place (suc k) x.1)

module _ (f : List ℕ) (a : Accepted f) (v : ℕ) (h : v < count f variables) (t : Tree) where
  pub variable-shaped : ShapedAll f (variable_cells f v t)
  unfolding variable_cells
  variable-shaped = cells-shaped t f a (place_or (variable_place f v (word f variables v 3))) (in-variable f a v (word f variables v 3) h)

  variable-words : Each (λ w. w < 2 ^ 32) (flatten t) → WordsAll (variable_cells f v t)
  unfolding variable_cells
  variable-words w = cells-words t f (place_or (variable_place f v (word f variables v 3))) w

  pub variable-sized : Each (λ w. w < 2 ^ 32) (flatten t) → SizedAll f (variable_cells f v t)
  variable-sized w = sized-all f a (variable_cells f v t) variable-shaped (variable-words w)
