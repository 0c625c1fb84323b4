-- What a pass over the definition keeps of every tree, for example that it is whole; and lists of trees as they are gathered under a head, within the limit of refusal 8.
-- Assumes nothing.
use Rattle.std.specs.Prelude.{◌≡◌, true, eqb, leb}
use Rattle.std.proofs.Math.Path.{refl}
use Prim.Native.Nat.{ℕ, zero, suc, ◌+◌, ◌*◌, ◌≤◌}
use native.Mathlib.Omega.{arith}
use Rattle.std.proofs.Common.{lit≤}
use borrow.Author.Tests.{leb-true}
use Rattle.definition.specs.Tree.{Tree, Trees, leaf, node, tnil, tcons, head, parts, many, nodes, nodes_in, named, headed, array_tree, structure_tree, one, times, rest, most_nodes}
use Rattle.definition.specs.Ask.{Result, ok, none, large, Outcome, Ask, done, ◌>>=◌, give, nothing, formed, gathered, and_more}
use Rattle.definition.specs.Parts.{on_fields, on_first, on_named, flat, repeated_defaults, added, copied, defaulted, field, structured}
use Rattle.definition.specs.Sheet.{parts_of}
use Rattle.laws.specs.Asks.{Asks, OnOk, asks-map, asks-then}
use Rattle.laws.specs.Cases.{on-pick, on-choose}
use Rattle.laws.specs.Whole.{Good, Goods, nodes-parts, nodes-named, nodes_in-join, nodes_in-times, nodes_in-rest, good-parts, good-named, Lists, lists-one, lists-join, lists-times, lists-rest, goods-lists, goods-one}
use Rattle.laws.specs.Values.{Sized, Small, good-leaf, sized-leaf}

-- what is kept: of the value of a place, of an array's entry, of a structure's field, of lists of entries and of lists of fields
pub record Kept : Type 1 where
  pub Of : Tree → Type 0
  pub Entry : Tree → Type 0
  pub Field : Tree → Type 0
  pub EntryList : Trees → Type 0
  pub FieldList : Trees → Type 0
  pub entries : Lists Entry EntryList
  pub fields : Lists Field FieldList
  pub leaf : (kind sign low high width : ℕ) → kind ≤ 12 → Entry (leaf kind sign low high width)
  pub structure : (ts : Trees) → FieldList ts → Entry (structure_tree ts)
  pub array : (ts : Trees) → EntryList ts → Of (array_tree ts)
  pub entry : (t : Tree) → Entry t → Of t
  pub field : (name : ℕ) (t : Tree) → Of t → Field (named name t)
  pub alone : (t : Tree) → Field t → Of (named 0 t)
  pub parts : (t : Tree) → eqb (head t).kind 14 ≡ true → Of t → FieldList (parts t)
  pub flat : (t : Tree) → Of t → EntryList (flat t)

-- the value of a place, and one that an array may list
abbrev pub Value : Kept → Tree → Type 0
Value K t = Sized K.Of t

abbrev pub Listed : Kept → Tree → Type 0
Listed K t = Sized K.Entry t

-- asks only for Ps and, where each answer is a value, gives a Q, none, or too large
abbrev pub Makes : {A : Type 0} → Kept → (ℕ → Type 0) → (A → Type 0) → Ask (Result A) → Type 0
Makes K P Q m = Asks P (λ d o. OnOk (Value K) o) (OnOk Q) m

-- trees of a list L which, with so many nodes gathered already and a head over all, stay within the limit
pub record Within (L : Trees → Type 0) (size : ℕ) (ts : Trees) : Type 0 where
  pub whole : L ts
  pub room : suc (size + nodes_in ts) ≤ most_nodes

abbrev pub Entries : Kept → ℕ → Trees → Type 0
Entries K size ts = Within K.EntryList size ts

abbrev pub Fields : Kept → ℕ → Trees → Type 0
Fields K size ts = Within K.FieldList size ts

pub within-rest : {R : Tree → Type 0} {L : Trees → Type 0} → Lists R L → (k : ℕ) (ts : Trees) → Within L 0 ts → Within L 0 (rest k ts)
within-rest l k ts g = record { whole = lists-rest l k ts g.whole; room = omega (arith, nodes_in-rest k ts) }

-- ---- lists whose every tree is an R, as they are gathered, whatever is asked and answered
module _ (P : ℕ → Type 0) (W : ℕ → Outcome → Type 0) {R : Tree → Type 0} {L : Trees → Type 0} (l : Lists R L) where
  pub within_none : (size : ℕ) → suc size ≤ most_nodes → Asks P W (OnOk (Within L size)) (give tnil)
  unfolding nodes give
  within_none size h = record { whole = l.none; room = omega arith }

  pub within-gathered : (size : ℕ) (ts : Trees) → L ts → Asks P W (OnOk (Within L size)) (gathered size ts)
  unfolding gathered
  within-gathered size ts g =
      on-choose (Asks P W (OnOk (Within L size))) (leb (suc (size + nodes_in ts)) most_nodes) (λ u. done (ok ts)) (λ u. done large)
      (λ b. record { whole = g; room = leb-true (suc (size + nodes_in ts)) most_nodes b }) (λ b. tt)

  pub within_more : (made size : ℕ) (some : Ask (Result Trees)) (more : ℕ → ℕ → Ask (Result Trees)) → Asks P W (OnOk (Within L size)) some
      → ((m s : ℕ) → suc s ≤ most_nodes → Asks P W (OnOk (Within L s)) (more m s)) → Asks P W (OnOk (Within L size)) (and_more made size some more)
  unfolding and_more give
  within_more made size some more h k =
      asks-then P W (Within L size) (Within L size) some _ h
      (λ ts g. asks-then P W (Within L (size + nodes_in ts)) (Within L size) (more (made + many ts) (size + nodes_in ts)) _ (k _ _ g.room)
      (λ us r. record { whole = lists-join l ts us g.whole r.whole; room = omega (arith, nodes_in-join ts us, r.room) }))

  pub within-added : (places made size : ℕ) (ts : Trees) → L ts → Asks P W (OnOk (Within L size)) (added places made size ts)
  unfolding added give nothing
  within-added places made size ts g =
      asks-then P W (Within L size) (Within L size) (gathered size ts) _ (within-gathered size ts g)
      (λ us r. on-pick (Asks P W (OnOk (Within L size))) (leb (made + many us) places) (give us) nothing (λ e. r) (λ e. tt))

  pub within-copied : (k : ℕ) (ts : Trees) (places made size : ℕ) → L ts → suc size ≤ most_nodes
      → Asks P W (OnOk (Within L size)) (copied k ts places made size)
  unfolding copied
  within-copied zero ts places made size g h = within_none size h
  within-copied (suc k) ts places made size g h =
      within_more made size (added places made size ts) (copied k ts places) (within-added places made size ts g) (λ m s r. within-copied k ts places m s g r)

  pub within_first : {A : Type 0} (Q : A → Type 0) (ts : Trees) (go : Tree → Trees → Ask (Result A)) → Within L 0 ts
      → ((t : Tree) (us : Trees) → R t → nodes t ≤ most_nodes → Within L 0 us → Asks P W (OnOk Q) (go t us)) → Asks P W (OnOk Q) (on_first ts go)
  unfolding nodes nothing
  within_first Q tnil go g k = tt
  within_first Q (tcons t us) go g k =
      k t us (l.first t us g.whole) (omega (arith, g.room)) (record { whole = l.others t us g.whole; room = omega (arith, g.room) })

  pub within-defaulted : (k : ℕ) (left : Trees) (places made size : ℕ) → Within L 0 left → suc size ≤ most_nodes
      → Asks P W (OnOk (Within L size)) (defaulted k left places made size)
  unfolding defaulted
  within-defaulted zero left places made size g h = within_none size h
  within-defaulted (suc k) left places made size g h =
      within_first (Within L size) left _ g
      (λ t us gt n gu. within_more made size (added places made size (one t)) (defaulted k us places)
      (within-added places made size (one t) (lists-one l t gt)) (λ m s r. within-defaulted k us places m s gu r))

  pub within-repeated : (k : ℕ) (ts : Trees) → L ts → Asks P W (OnOk (Within L 0)) (repeated_defaults k ts)
  unfolding repeated_defaults give
  within-repeated k ts g =
      on-choose (Asks P W (OnOk (Within L 0))) (leb (suc (k * nodes_in ts)) most_nodes) (λ u. give (times k ts)) (λ u. done large)
      (λ b. record { whole = lists-times l k ts g; room = omega (arith, nodes_in-times k ts, leb-true (suc (k * nodes_in ts)) most_nodes b) }) (λ b. tt)

-- ---- computations
module _ (K : Kept) where
  -- what a constant, an enumerated value or an expression gives
  pub value-leaf : (kind sign low high width : ℕ) → kind ≤ 12 → Value K (leaf kind sign low high width)
  value-leaf kind sign low high width h = sized-leaf K.Of kind sign low high width (K.entry _ (K.leaf kind sign low high width h))

  pub entry-leaf : (kind sign low high width : ℕ) → kind ≤ 12 → Listed K (leaf kind sign low high width)
  entry-leaf kind sign low high width h = sized-leaf K.Entry kind sign low high width (K.leaf kind sign low high width h)

nameless-named : (t : Tree) → (head (named 0 t)).name ≡ 0
unfolding head named
nameless-named (node h ts) = refl

module _ (K : Kept) (P : ℕ → Type 0) where
  pub gives_nothing : {A : Type 0} (Q : A → Type 0) → Makes K P Q nothing
  unfolding nothing
  gives_nothing Q = tt

  pub gives-give : {A : Type 0} (Q : A → Type 0) (a : A) → Q a → Makes K P Q (give a)
  unfolding give
  gives-give Q a h = h

  pub gives_then : {A B : Type 0} (Q : A → Type 0) (R : B → Type 0) (m : Ask (Result A)) (g : A → Ask (Result B))
      → Makes K P Q m → ((a : A) → Q a → Makes K P R (g a)) → Makes K P R (m >>= g)
  gives_then Q R m g h k = asks-then P (λ d o. OnOk (Value K) o) Q R m g h k

  -- what an array may list is a value
  pub gives-value : (m : Ask Outcome) → Makes K P (Listed K) m → Makes K P (Value K) m
  gives-value m h = asks-map P P _ _ (OnOk (Listed K)) (OnOk (Value K)) (λ d p. p) (λ d o w. w) go m h
    where
      go : (o : Outcome) → OnOk (Listed K) o → OnOk (Value K) o
      go (ok t) g = record { few = g.few; good = K.entry t g.good; nameless = g.nameless }
      go none g = tt
      go large g = tt

  pub gives-formed : (ts : Trees) → K.EntryList ts → Makes K P (Value K) (formed (array_tree ts))
  unfolding formed head array_tree headed
  gives-formed ts g =
      on-choose (Makes K P (Value K)) (leb (nodes (array_tree ts)) most_nodes) _ _
      (λ b. record { few = leb-true (nodes (array_tree ts)) most_nodes b; good = K.array ts g; nameless = refl }) (λ b. tt)

  pub gives-structure : (ts : Trees) → Fields K 0 ts → Makes K P (Listed K) (give (structure_tree ts))
  unfolding give structure_tree headed nodes head
  gives-structure ts g = record { few = omega arith; good = K.structure ts g.whole; nameless = refl }

  pub gives-added : (m : Ask Outcome) (places made size : ℕ) → Makes K P (Listed K) m → Makes K P (Entries K size) (m >>= λ t. added places made size (one t))
  gives-added m places made size h =
      gives_then (Listed K) (Entries K size) m _ h
      (λ t g. within-added P _ K.entries places made size (one t) (lists-one K.entries t g.good))

  pub gives-named : (name : ℕ) (ts : Trees) (Q : Tree → Type 0) (go : Tree → Ask Outcome) → Fields K 0 ts → ((t : Tree) → Value K t → Makes K P Q (go t))
      → Makes K P Q (on_named name ts go)
  unfolding on_named nodes
  gives-named name tnil Q go g k = gives_nothing Q
  gives-named name (tcons t us) Q go g k =
      on-choose (Makes K P Q) (eqb (head t).name name) (λ u. go (named 0 t)) (λ u. on_named name us go)
      (λ e. k (named 0 t) (record { few = omega (arith, g.room, nodes-named 0 t); good = K.alone t (K.fields.first t us g.whole); nameless = nameless-named t }))
      (λ e. gives-named name us Q go (record { whole = K.fields.others t us g.whole; room = omega (arith, g.room) }) k)

  pub gives-fields : (t : Tree) (Q : Tree → Type 0) (go : Trees → Ask Outcome) → K.Of t → nodes t ≤ most_nodes
      → ((ts : Trees) → Fields K 0 ts → Makes K P Q (go ts)) → Makes K P Q (on_fields t go)
  gives-fields t Q go g h k =
      on-choose (Makes K P Q) (eqb (head t).kind 14) (λ u. go (parts t)) (λ u. nothing)
      (λ e. k (parts t) (record { whole = K.parts t e g; room = omega (arith, nodes-parts t) })) (λ e. gives_nothing Q)

  pub gives-field : (size name : ℕ) (t : Tree) → K.Of t → Makes K P (Fields K size) (field size name t)
  unfolding field
  gives-field size name t g = within-gathered P _ K.fields size (one (named name t)) (lists-one K.fields (named name t) (K.field name t g))

  pub gives-structured : (fields : ℕ → ℕ → Ask (Result Trees)) → Makes K P (Fields K 0) (fields 0 0) → Makes K P (Value K) (structured fields)
  unfolding structured
  gives-structured fields h =
      gives_then (Fields K 0) (Value K) (fields 0 0) _ h (λ ts g. gives-value (give (structure_tree ts)) (gives-structure ts g))

-- ---- kept: that every tree is whole
-- asks only for Ps and, where each answer is a small tree, gives a Q, none, or too large
abbrev pub Gives : {A : Type 0} → (ℕ → Type 0) → (A → Type 0) → Ask (Result A) → Type 0
Gives P Q m = Asks P (λ d o. OnOk Small o) (OnOk Q) m

pub good-array : (ts : Trees) → Goods ts → Good (array_tree ts)
unfolding Good array_tree headed parts_of
good-array ts g = (lit≤ tt, refl, g)

pub good-structure : (ts : Trees) → Goods ts → Good (structure_tree ts)
unfolding Good structure_tree headed parts_of
good-structure ts g = (lit≤ tt, refl, g)

pub goods-flat : (t : Tree) → Good t → Goods (flat t)
unfolding flat
goods-flat t g = on-pick Goods (eqb (head t).kind 13) (parts t) (one t) (λ e. good-parts t g) (λ e. goods-one t g)

abbrev pub wholes : Kept
wholes =
    record {
      Of = Good;
      Entry = Good;
      Field = Good;
      EntryList = Goods;
      FieldList = Goods;
      entries = goods-lists;
      fields = goods-lists;
      leaf = good-leaf;
      structure = good-structure;
      array = good-array;
      entry = λ t g. g;
      field = good-named;
      alone = good-named 0;
      parts = λ t e. good-parts t;
      flat = goods-flat;
    }

-- ---- whole trees under a head, by the names that code has for them
abbrev pub Gathered : ℕ → Trees → Type 0
Gathered = Within Goods

pub gathered-rest : (k : ℕ) (ts : Trees) → Gathered 0 ts → Gathered 0 (rest k ts)
gathered-rest = within-rest goods-lists

pub gathered-parts : (t : Tree) → Good t → nodes t ≤ most_nodes → Gathered 0 (parts t)
gathered-parts t g h = record { whole = good-parts t g; room = omega (arith, nodes-parts t) }

pub array-nameless : (ts : Trees) → (head (array_tree ts)).name ≡ 0
unfolding head array_tree headed
array-nameless ts = refl

pub small-structure : (ts : Trees) → Gathered 0 ts → Small (structure_tree ts)
unfolding structure_tree headed nodes head
small-structure ts g = record { few = omega arith; good = good-structure ts g.whole; nameless = refl }
