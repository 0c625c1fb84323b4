-- What is read in a node's place is the same part, and from nodes that are the same parts the same is read. Assumes nothing.
use Rattle.std.specs.Prelude.{◌≡◌, Bool, ◌&&◌, ◌||◌, List, [], ◌∷◌, eqb, take, drop}
use Rattle.std.proofs.Math.Path.{refl, ap, sym}
use Rattle.std.proofs.Common.{◌∙◌, arith}
use Rattle.std.proofs.Math.Bool.{true, false}
use Prim.Native.Nat.{ℕ}
use Rattle.definition.specs.declared.records.Shape.{Shape}
use Rattle.definition.specs.declared.records.Shape.TheVariants as shape
use Rattle.definition.specs.Base.{pick}
use Rattle.definition.specs.Records.{constant_of}
use Rattle.definition.specs.Ask.{Result, ok, none, large}
use Rattle.definition.specs.Scalar.{max_length}
use Rattle.definition.specs.Shapes.{is_reference}
use Rattle.laws.specs.Cases.{on-pick}
use Rattle.memory_definition.specs.declared.form.Form.{Form}
use Rattle.memory_definition.specs.declared.form.Form.TheVariants as form
use Rattle.memory_definition.specs.Cells.{Cell, cell}
use Rattle.memory_definition.specs.Forms.{as_integer, as_text, stored_by, stored_up_to, stored, is_head, form_at, form_of, held, bytes, node_as, node_read, text_as, text_read, same_bytes, listed, readable}
use Rattle.memory_definition.specs.Memory.{size, readable_all}
use Rattle.memory_laws.specs.Fits.{Literals, literal-leaf, literal-stored}
use Rattle.memory_laws.specs.Lengths.{headed, null, other, part_of, Alike, AlikeAll, all_done, all_next, form-alike, size-alike}
use Rattle.memory_laws.specs.ReadBack.{kind_as, kind-read}

-- ---- a shape gives no head, and a null only where it is a reference
abbrev Stands : Shape → Form → Type 0
Stands s form.Head = ⊥
Stands s form.Null = is_reference s ≡ true
Stands s form.Bool = Unit {0}
Stands s (form.Number signed bits kind width) = Unit {0}
Stands s form.Real = Unit {0}
Stands s form.LongReal = Unit {0}
Stands s (form.String most width) = Unit {0}
Stands s (form.Enumeration first count) = Unit {0}
Stands s form.Nothing = Unit {0}

stands-whole : (s : Shape) (F : Form) → Stands s (as_integer F)
stands-whole s form.Head = tt
stands-whole s form.Null = tt
stands-whole s form.Bool = tt
stands-whole s (form.Number signed bits kind width) = on-pick (Stands s) (eqb kind 1) (form.Number signed bits kind width) form.Nothing (λ e. tt) (λ e. tt)
stands-whole s form.Real = tt
stands-whole s form.LongReal = tt
stands-whole s (form.String most width) = tt
stands-whole s (form.Enumeration first count) = tt
stands-whole s form.Nothing = tt

stands-text : (s : Shape) (r : Result ℕ) (width : ℕ) → Stands s (as_text r width)
stands-text s (ok most) width = tt
stands-text s none width = tt
stands-text s large width = tt

stands_by : (f : List ℕ) (below : ℕ → Form) (s : Shape) → Stands s (stored_by f below s)
unfolding stored_by
stands_by f below shape.Bool = tt
stands_by f below (shape.Int bits) = tt
stands_by f below (shape.UInt bits) = tt
stands_by f below (shape.Real bits) = on-pick (Stands (shape.Real bits)) (eqb bits 64) form.LongReal form.Real (λ e. tt) (λ e. tt)
stands_by f below (shape.Bytes bits) = tt
stands_by f below (shape.Time bits) = tt
stands_by f below (shape.Date bits) = tt
stands_by f below (shape.TimeOfDay bits) = tt
stands_by f below (shape.DateAndTime bits) = tt
stands_by f below (shape.String length width) = stands-text (shape.String length width) (max_length f length) width
stands_by f below (shape.Enumeration first count default underlying) = tt
stands_by f below (shape.Structure first count) = tt
stands_by f below (shape.Array element first count) = tt
stands_by f below (shape.Subrange base low high) = stands-whole (shape.Subrange base low high) (below base)
stands_by f below (shape.FunctionBlock name) = tt
stands_by f below (shape.Interface name) = tt
stands_by f below (shape.Reference target) = refl
stands_by f below shape.Unknown = tt

stands : (f : List ℕ) (s : Shape) → Stands s (stored f s)
unfolding stored stored_up_to
stands f s = stands_by f _ s

-- ---- what is read in a node's place
-- it is no head, and a null only at a reference
leaf-read : (s : Shape) (F : Form) (kind : ℕ) → Stands s F → Literals F
    → (is_head (kind_as F kind) ≡ false) × (eqb (kind_as F kind) 10 || is_reference s ≡ is_reference s)
unfolding kind_as is_head
leaf-read s form.Head kind a l = absurd a
leaf-read s form.Null kind a l = (refl, sym a)
leaf-read s form.Bool kind a l = (refl, refl)
leaf-read s (form.Number signed bits own width) kind a l = let x = literal-leaf signed own width l in (x.0, rw x.1)
leaf-read s form.Real kind a l = (refl, refl)
leaf-read s form.LongReal kind a l = (refl, refl)
leaf-read s (form.String most width) kind a l = (refl, refl)
leaf-read s (form.Enumeration first count) kind a l = (refl, refl)
leaf-read s form.Nothing kind a l = (refl, refl)

module _ (f : List ℕ) (at : ℕ) (c : Cell) (bs : List ℕ) where
  head-part : is_head c.node.kind ≡ true → headed c.node.kind c.node.low ≡ part_of (cell c.shape (node_as f form.Head at c bs))
  unfolding part_of node_as constant_of
  head-part p = rw p

  null-part : null ≡ part_of (cell c.shape (node_as f form.Null at c bs))
  unfolding part_of node_as constant_of is_head
  null-part = refl

  leaf-part : (F : Form) → Stands c.shape F → Literals F → pick (is_reference c.shape) null other ≡ part_of (cell c.shape (node_as f F at c bs))
  unfolding part_of
  leaf-part F a l =
      let kind : (node_as f F at c bs).kind ≡ kind_as F c.node.kind = kind-read f F at c bs in
      let x = leaf-read c.shape F c.node.kind a l in
      let low : ℕ = (node_as f F at c bs).low in
      sym
      (ap (λ k. pick (is_head k) (headed k low) (pick (eqb k 10 || is_reference c.shape) null other)) kind
      ∙ ap (λ b. pick b (headed (kind_as F c.node.kind) low) (pick (eqb (kind_as F c.node.kind) 10 || is_reference c.shape) null other)) x.0
      ∙ ap (λ b. pick b null other) x.1)

  pub alike_read : Alike c (cell c.shape (node_read f at c bs))
  unfolding part_of node_read form_of form_at
  alike_read = record { place = refl; part = go (is_head c.node.kind) (eqb c.node.kind 10) refl }
    where
      go : (b n : Bool) → is_head c.node.kind ≡ b
          → pick b (headed c.node.kind c.node.low) (pick (n || is_reference c.shape) null other)
          ≡ part_of (cell c.shape (node_as f (pick b form.Head (pick n form.Null (stored f c.shape))) at c bs))
      go true n p = head-part p
      go false true p = null-part
      go false false p = leaf-part (stored f c.shape) (stands f c.shape) (literal-stored f c.shape)

-- ---- the same is read from the same parts
-- a node is looked at only where it is a head
node-leaf : (f : List ℕ) (s : Shape) (F : Form) (at : ℕ) (c d : Cell) (bs : List ℕ) → Stands s F → node_as f F at c bs ≡ node_as f F at d bs
unfolding node_as
node-leaf f s form.Head at c d bs a = absurd a
node-leaf f s form.Null at c d bs a = refl
node-leaf f s form.Bool at c d bs a = refl
node-leaf f s (form.Number signed bits kind width) at c d bs a = refl
node-leaf f s form.Real at c d bs a = refl
node-leaf f s form.LongReal at c d bs a = refl
node-leaf f s (form.String most width) at c d bs a = refl
node-leaf f s (form.Enumeration first count) at c d bs a = refl
node-leaf f s form.Nothing at c d bs a = refl

-- heads that are alike have one kind and one count
same_head : (c d : Cell) → is_head c.node.kind ≡ true → part_of c ≡ part_of d → (c.node.kind ≡ d.node.kind) × (c.node.low ≡ d.node.low)
unfolding part_of
same_head c d p e = go (is_head d.node.kind) (eqb d.node.kind 10 || is_reference d.shape) (ap (λ b. pick b (headed c.node.kind c.node.low) (pick (eqb c.node.kind 10 || is_reference c.shape) null other)) (sym p) ∙ e)
  where
    go : (b n : Bool) → headed c.node.kind c.node.low ≡ pick b (headed d.node.kind d.node.low) (pick n null other)
        → (c.node.kind ≡ d.node.kind) × (c.node.low ≡ d.node.low)
    go true n e = (cc, cc)
    go false true e = let z : ◌≡◌ {A = ℕ} 0 1 = cc in absurd (omega arith)
    go false false e = let z : ◌≡◌ {A = ℕ} 0 1 = cc in absurd (omega arith)

null-alike : (f : List ℕ) (at : ℕ) (c d : Cell) (bs : List ℕ) → node_as f form.Null at c bs ≡ node_as f form.Null at d bs
unfolding node_as
null-alike f at c d bs = refl

module _ (f : List ℕ) {c d : Cell} (a : Alike c d) (bs : List ℕ) where
  head-alike : (at : ℕ) → is_head c.node.kind ≡ true → node_as f form.Head at c bs ≡ node_as f form.Head at d bs
  unfolding node_as
  head-alike at p = let x = same_head c d p a.part in rw (x.0, x.1)

  same-node : (at : ℕ) → node_as f (form_of f c) at c bs ≡ node_as f (form_of f c) at d bs
  unfolding form_of form_at
  same-node at = go (is_head c.node.kind) (eqb c.node.kind 10) refl
    where
      go : (b n : Bool) → is_head c.node.kind ≡ b
          → node_as f (pick b form.Head (pick n form.Null (stored f c.shape))) at c bs ≡ node_as f (pick b form.Head (pick n form.Null (stored f c.shape))) at d bs
      go true n p = head-alike at p
      go false true p = null-alike f at c d bs
      go false false p = node-leaf f c.shape (stored f c.shape) at c d bs (stands f c.shape)

  node_alike : (at : ℕ) → node_read f at c bs ≡ node_read f at d bs
  unfolding node_read
  node_alike at = same-node at ∙ ap (λ F. node_as f F at d bs) (form-alike f a)

  text-alike : text_read f c bs ≡ text_read f d bs
  unfolding text_read
  text-alike = ap (λ F. text_as F bs) (form-alike f a)

  readable-alike : readable f c bs ≡ readable f d bs
  unfolding readable
  readable-alike =
      ap (λ s. held f (cell s (node_read f 0 c bs)) && same_bytes (bytes f (listed (text_read f c bs)) (cell s (node_read f 0 c bs))) bs) a.place
      ∙ ap (λ h. held f (cell d.shape h) && same_bytes (bytes f (listed (text_read f c bs)) (cell d.shape h)) bs) (node_alike 0)
      ∙ ap (λ t. held f (cell d.shape (node_read f 0 d bs)) && same_bytes (bytes f (listed t) (cell d.shape (node_read f 0 d bs))) bs) text-alike

pub readable-all-alike : (f : List ℕ) {cs ds : List Cell} (bs : List ℕ) → AlikeAll cs ds → readable_all f cs bs ≡ readable_all f ds bs
unfolding readable_all
readable-all-alike f [] all_done = refl
readable-all-alike f (b ∷ bs) all_done = refl
readable-all-alike f bs (all_next {c = c} {d = d} {cs = cs} {ds = ds} a more) =
    rw (size-alike f a, readable-alike f a (take (size f d) bs), readable-all-alike f (drop (size f d) bs) more)
