-- Two computations that ask for the same types: where the second is answered as the first with the characters cut taken out, so is what it gives. Assumes nothing.
use Rattle.std.specs.Prelude.{◌≡◌, Bool, true, false, eqb, leb}
use Rattle.std.proofs.Math.Path.{refl, ap}
use mathlib.Core.List.{List, [], ◌∷◌, map}
use Prim.Native.Nat.{ℕ, zero, suc, ◌+◌, ◌*◌}
use Rattle.std.proofs.Math.ListN.{get_or-map}
use Rattle.definition.specs.declared.records.Shape.{Shape}
use Rattle.definition.specs.declared.records.Shape.TheVariants as shape
use Rattle.definition.specs.declared.records.Place.{Place}
use Rattle.definition.specs.Base.{pick, choose}
use Rattle.definition.specs.Accept.{elements_of}
use Rattle.definition.specs.Tree.{Tree, Trees, tnil, tcons, head, parts, many, nodes, nodes_in, named, headed, array_tree, structure_tree, one, most_nodes}
use Rattle.definition.specs.Ask.{Result, ok, none, large, Outcome, Ask, done, ask, on_ok, bind, ◌>>=◌, give, nothing, type_default, formed, gathered, and_more}
use Rattle.definition.specs.Iec.{filled}
use Rattle.definition.specs.Shapes.{on_shape}
use Rattle.definition.specs.Places.{element_place, leaf_place, field_place}
use Rattle.definition.specs.Parts.{Starts, if_stated, on_fields, on_first, on_named, flat, repeated_defaults, element_defaults, Fills, array_by, added, copied, defaulted, field, fields_by, structured, default_by, name_default}
use Rattle.definition.specs.Resolve.{Look, known, unknown, on_look, Memo, at, put, empty, Ran, Resolver, run, resolve, asking, resolve_all}
use Rattle.laws.specs.Uncut.{uncut_tree, uncut_all, over, uncut_outcome, name-uncut, kind-uncut, nodes-uncut, nodes_in-uncut, many-uncut, headed-uncut, parts-uncut, named-uncut, one-uncut, join-uncut, times-uncut, filled-uncut, flat-uncut}

-- every ask is of the same type, and what is given changes by u
pub data Alike {A : Type 0} (u : A → A) : Ask (Result A) → Ask (Result A) → Type 0 where
  gives : (r : Result A) → Alike u (done r) (done (over u r))
  asks : (d : ℕ) (k j : Outcome → Ask (Result A)) → ((o : Outcome) → Alike u (k o) (j (uncut_outcome o))) → Alike u (ask d k) (ask d j)

-- ---- the steps
module _ {A : Type 0} {u : A → A} where
  pub alike-done : {r s : Result A} → over u r ≡ s → Alike u (done r) (done s)
  alike-done {r} e = rw (← e) (gives r)

  pub alike-give : (a : A) {b : A} → u a ≡ b → Alike u (give a) (give b)
  unfolding give
  alike-give a e = rw (← e) (gives (ok a))

  pub alike-nothing : Alike u nothing nothing
  unfolding nothing
  alike-nothing = gives none

  pub alike-choose : (b : Bool) {x x' y y' : Ask (Result A)} → Alike u x x' → Alike u y y' → Alike u (choose b (λ t. x) (λ t. y)) (choose b (λ t. x') (λ t. y'))
  alike-choose true p q = p
  alike-choose false p q = q

  pub alike_stated : (l : ℕ) {x x' : Ask (Result A)} {g g' : ℕ → Ask (Result A)} → Alike u x x' → ((n : ℕ) → Alike u (g n) (g' n))
      → Alike u (if_stated l (λ t. x) g) (if_stated l (λ t. x') g')
  alike_stated zero p q = p
  alike_stated (suc n) p q = q n

  module _ {s s' e e' t t' : ℕ → ℕ → Ask (Result A)} {a a' : ℕ → ℕ → ℕ → Ask (Result A)} {b b' r r' o o' : Ask (Result A)}
      (string : (x y : ℕ) → Alike u (s x y) (s' x y)) (enumeration : (x y : ℕ) → Alike u (e x y) (e' x y)) (structure : (x y : ℕ) → Alike u (t x y) (t' x y))
      (array : (x y z : ℕ) → Alike u (a x y z) (a' x y z)) (block : Alike u b b') (reference : Alike u r r') (other : Alike u o o') where
    pub alike-shape : (v : Shape)
        → Alike u (on_shape v s e t a (λ x. b) (λ x. r) (λ x. o)) (on_shape v s' e' t' a' (λ x. b') (λ x. r') (λ x. o'))
    alike-shape shape.Bool = other
    alike-shape (shape.Int bits) = other
    alike-shape (shape.UInt bits) = other
    alike-shape (shape.Real bits) = other
    alike-shape (shape.Bytes bits) = other
    alike-shape (shape.Time bits) = other
    alike-shape (shape.Date bits) = other
    alike-shape (shape.TimeOfDay bits) = other
    alike-shape (shape.DateAndTime bits) = other
    alike-shape (shape.String length width) = string length width
    alike-shape (shape.Enumeration first count default underlying) = enumeration first count
    alike-shape (shape.Structure first count) = structure first count
    alike-shape (shape.Array element first count) = array element first count
    alike-shape (shape.Subrange base low high) = other
    alike-shape (shape.FunctionBlock name) = block
    alike-shape (shape.Interface name) = other
    alike-shape (shape.Reference target) = reference
    alike-shape shape.Unknown = other

pub alike-type : (d : ℕ) → Alike uncut_tree (type_default d) (type_default d)
unfolding type_default
alike-type d = asks d done done (λ o. gives o)

module _ {A B : Type 0} {u : A → A} {v : B → B} where
  pub alike-bind : {m n : Ask (Result A)} {g : Result A → Ask (Result B)} (h : Result A → Ask (Result B)) → Alike u m n
      → ((r : Result A) → Alike v (g r) (h (over u r))) → Alike v (bind m g) (bind n h)
  unfolding bind
  alike-bind h (gives r) q = q r
  alike-bind h (asks d k j p) q = asks d _ _ (λ o. alike-bind h (p o) q)

  pub alike_then : {m n : Ask (Result A)} {g : A → Ask (Result B)} (h : A → Ask (Result B)) → Alike u m n → ((a : A) → Alike v (g a) (h (u a)))
      → Alike v (m >>= g) (n >>= h)
  unfolding ◌>>=◌
  alike_then {g} h p q = alike-bind (on_ok h) p go
    where
      go : (r : Result A) → Alike v (on_ok g r) (on_ok h (over u r))
      go (ok a) = q a
      go none = gives none
      go large = gives large

-- after what is no tree
pub alike_from : {A B : Type 0} {v : B → B} (r : Result A) {g h : A → Ask (Result B)} → ((a : A) → Alike v (g a) (h a)) → Alike v (done r >>= g) (done r >>= h)
unfolding bind ◌>>=◌
alike_from (ok a) q = q a
alike_from none q = gives none
alike_from large q = gives large

-- ---- trees
pub alike-nil : Alike uncut_all (give tnil) (give tnil)
unfolding uncut_tree
alike-nil = alike-give tnil refl

alike-formed : (t : Tree) → Alike uncut_tree (formed t) (formed (uncut_tree t))
unfolding formed
alike-formed t = rw (nodes-uncut t) (alike-choose (leb (nodes t) most_nodes) (gives (ok t)) (gives large))

pub alike-gathered : (size : ℕ) (ts : Trees) → Alike uncut_all (gathered size ts) (gathered size (uncut_all ts))
unfolding gathered
alike-gathered size ts = rw (nodes_in-uncut ts) (alike-choose (leb (suc (size + nodes_in ts)) most_nodes) (gives (ok ts)) (gives large))

pub alike-more : (made size : ℕ) {some some' : Ask (Result Trees)} {more more' : ℕ → ℕ → Ask (Result Trees)} → Alike uncut_all some some'
    → ((m s : ℕ) → Alike uncut_all (more m s) (more' m s)) → Alike uncut_all (and_more made size some more) (and_more made size some' more')
unfolding and_more
alike-more made size p q =
    alike_then _ p (λ ts. rw (many-uncut ts, nodes_in-uncut ts) (alike_then _ (q (made + many ts) (size + nodes_in ts)) (λ us. alike-give _ (join-uncut ts us))))

pub alike-fields : (t : Tree) {go : Trees → Ask Outcome} (go' : Trees → Ask Outcome) → ((ts : Trees) → Alike uncut_tree (go ts) (go' (uncut_all ts)))
    → Alike uncut_tree (on_fields t go) (on_fields (uncut_tree t) go')
alike-fields t go' q = rw (kind-uncut t, parts-uncut t) (alike-choose (eqb (head t).kind 14) (q (parts t)) alike-nothing)

pub alike-first : {A : Type 0} {v : A → A} (ts : Trees) {go : Tree → Trees → Ask (Result A)} (go' : Tree → Trees → Ask (Result A))
    → ((t : Tree) (us : Trees) → Alike v (go t us) (go' (uncut_tree t) (uncut_all us))) → Alike v (on_first ts go) (on_first (uncut_all ts) go')
unfolding uncut_tree
alike-first tnil go' q = alike-nothing
alike-first (tcons t us) go' q = q t us

pub alike-named : (name : ℕ) (ts : Trees) {go : Tree → Ask Outcome} (go' : Tree → Ask Outcome) → ((t : Tree) → Alike uncut_tree (go t) (go' (uncut_tree t)))
    → Alike uncut_tree (on_named name ts go) (on_named name (uncut_all ts) go')
unfolding on_named uncut_tree
alike-named name tnil go' q = alike-nothing
alike-named name (tcons t us) go' q =
    rw (name-uncut t, ← named-uncut 0 t) (alike-choose (eqb (head t).name name) (q (named 0 t)) (alike-named name us go' q))

-- ---- arrays
alike-repeated : (k : ℕ) (ts : Trees) → Alike uncut_all (repeated_defaults k ts) (repeated_defaults k (uncut_all ts))
unfolding repeated_defaults
alike-repeated k ts =
    rw (nodes_in-uncut ts) (alike-choose (leb (suc (k * nodes_in ts)) most_nodes) (alike-give _ (times-uncut k ts)) (gives large))

alike-added : (places made size : ℕ) (ts : Trees) → Alike uncut_all (added places made size ts) (added places made size (uncut_all ts))
unfolding added
alike-added places made size ts = alike_then _ (alike-gathered size ts) (λ us. rw (many-uncut us) (go us (leb (made + many us) places)))
  where
    go : (us : Trees) (b : Bool) → Alike uncut_all (pick b (give us) nothing) (pick b (give (uncut_all us)) nothing)
    go us true = alike-give us refl
    go us false = alike-nothing

pub alike-one : (places made size : ℕ) (t : Tree) → Alike uncut_all (added places made size (one t)) (added places made size (one (uncut_tree t)))
alike-one places made size t = rw (← one-uncut t) (alike-added places made size (one t))

pub alike-copied : (k : ℕ) (ts : Trees) (places made size : ℕ) → Alike uncut_all (copied k ts places made size) (copied k (uncut_all ts) places made size)
unfolding copied
alike-copied zero ts places made size = alike-nil
alike-copied (suc k) ts places made size = alike-more made size (alike-added places made size ts) (λ m s. alike-copied k ts places m s)

pub alike-defaulted : (k : ℕ) (left : Trees) (places made size : ℕ) → Alike uncut_all (defaulted k left places made size) (defaulted k (uncut_all left) places made size)
unfolding defaulted
alike-defaulted zero left places made size = alike-nil
alike-defaulted (suc k) left places made size =
    alike-first left _ (λ t ts. alike-more made size (alike-one places made size t) (λ m s. alike-defaulted k ts places m s))

-- ---- structures
pub alike-field : (size name : ℕ) (t : Tree) → Alike uncut_all (field size name t) (field size name (uncut_tree t))
unfolding field
alike-field size name t = rw (← named-uncut name t, ← one-uncut (named name t)) (alike-gathered size (one (named name t)))

pub structure-uncut : (ts : Trees) → uncut_tree (structure_tree ts) ≡ structure_tree (uncut_all ts)
unfolding structure_tree
structure-uncut ts = headed-uncut 14 ts

pub alike-structured : (fields fields' : ℕ → ℕ → Ask (Result Trees)) → Alike uncut_all (fields 0 0) (fields' 0 0)
    → Alike uncut_tree (structured fields) (structured fields')
unfolding structured
alike-structured fields fields' p = alike_then _ p (λ ts. alike-give _ (structure-uncut ts))

pub alike-name : (w : ℕ) → Alike uncut_tree (name_default w) (name_default w)
unfolding name_default
alike-name zero = alike-nothing
alike-name (suc d) = alike-type d

-- ---- places whose places inside start alike
abbrev pub StartsAlike : Starts → Starts → Type 0
StartsAlike d d' = (place : Place) → Alike uncut_tree (d place) (d' place)

abbrev pub FillsAlike : Fills → Fills → Type 0
FillsAlike g g' = (leaf : Place) (defaults : Trees) (made size : ℕ) → Alike uncut_all (g leaf defaults made size) (g' leaf (uncut_all defaults) made size)

module _ (f : List ℕ) (d d' : Starts) (start : StartsAlike d d') (place : Place) where
  alike-elements : Alike uncut_all (element_defaults f d place) (element_defaults f d' place)
  unfolding element_defaults
  alike-elements =
      let no : Alike uncut_all nothing nothing = alike-nothing in
      alike-shape (λ a b. no) (λ a b. no) (λ a b. no)
      (λ s first count. alike_then _ (start (element_place f place s)) (λ t. rw (← flat-uncut t) (alike-repeated (elements_of f first count) (flat t))))
      no no no place.shape

  pub alike-array : (g g' : Fills) → FillsAlike g g' → Alike uncut_tree (array_by f d place g) (array_by f d' place g')
  unfolding array_by array_tree
  alike-array g g' fill =
      alike_then _ alike-elements (λ ts. alike_then _ (fill (leaf_place f place) ts 0 0)
      (λ us. rw (← filled-uncut ts us, ← headed-uncut 13 (filled ts us)) (alike-formed (headed 13 (filled ts us)))))

  pub alike-fields_by : (names : List ℕ) (made size : ℕ) → Alike uncut_all (fields_by f d place names made size) (fields_by f d' place names made size)
  unfolding fields_by
  alike-fields_by [] made size = alike-nil
  alike-fields_by (name ∷ names) made size =
      alike-more made size (alike_then _ (alike_from (field_place f place name) start) (alike-field size name)) (λ m s. alike-fields_by names m s)

pub alike-default_by : (d d' : Starts) → StartsAlike d d' → StartsAlike (default_by d) (default_by d')
unfolding default_by
alike-default_by d d' start place = alike_stated place.id (start place) alike-type

-- ---- runs: what is remembered with the characters cut taken out
abbrev uncut_look : Look → Look
uncut_look (known o) = known (uncut_outcome o)
uncut_look unknown = unknown

abbrev uncut_ran : {A : Type 0} → (A → A) → Ran A → Ran A
uncut_ran u r = record { memo = map uncut_look r.memo; value = u r.value }

at-uncut : (M : Memo) (d : ℕ) → at (map uncut_look M) d ≡ uncut_look (at M d)
unfolding at
at-uncut M d = get_or-map uncut_look M d (known none)

put-uncut : (M : Memo) (d : ℕ) (o : Outcome) → map uncut_look (put M d o) ≡ put (map uncut_look M) d (uncut_outcome o)
unfolding put
put-uncut [] d o = refl
put-uncut (l ∷ M) zero o = refl
put-uncut (l ∷ M) (suc d) o = rw (put-uncut M d o)

empty-uncut : (n : ℕ) → map uncut_look (empty n) ≡ empty n
unfolding empty
empty-uncut zero = refl
empty-uncut (suc n) = rw (empty-uncut n)

module _ (res res' : Resolver) (same : (M : Memo) (d : ℕ) → res' (map uncut_look M) d ≡ uncut_ran uncut_outcome (res M d)) where
  -- the next ask, where what follows it is the same
  step-uncut : {A : Type 0} (u : A → A) (d : ℕ) (k j : Outcome → Ask A)
      → ((o : Outcome) (M : Memo) → run res' (map uncut_look M) (j (uncut_outcome o)) ≡ uncut_ran u (run res M (k o)))
      → (M : Memo) → run res' (map uncut_look M) (ask d j) ≡ uncut_ran u (run res M (ask d k))
  unfolding run
  step-uncut u d k j next M = rw (at-uncut M d, same M d) (go (at M d))
    where
      go : (w : Look)
          → on_look (uncut_look w) (λ o. run res' (map uncut_look M) (j o)) (λ t. run res' (map uncut_look (res M d).memo) (j (uncut_outcome (res M d).value)))
          ≡ uncut_ran u (on_look w (λ o. run res M (k o)) (λ t. run res (res M d).memo (k (res M d).value)))
      go (known o) = next o M
      go unknown = next (res M d).value (res M d).memo

  run-uncut : {A : Type 0} {u : A → A} {m n : Ask (Result A)} → Alike u m n → (M : Memo) → run res' (map uncut_look M) n ≡ uncut_ran (over u) (run res M m)
  unfolding run
  run-uncut (gives r) M = refl
  run-uncut {u = u} (asks d k j p) M = step-uncut (over u) d k j (λ o N. run-uncut (p o) N) M

  asking-uncut : (l : List ℕ) (M : Memo) → run res' (map uncut_look M) (asking l) ≡ uncut_ran (λ t. t) (run res M (asking l))
  unfolding run asking
  asking-uncut [] M = refl
  asking-uncut (d ∷ l) M = step-uncut (λ t. t) d (λ o. asking l) (λ o. asking l) (λ o. asking-uncut l) M

module _ (bodies bodies' : ℕ → Ask Outcome) (each : (t : ℕ) → Alike uncut_tree (bodies t) (bodies' t)) where
  resolve-uncut : (n : ℕ) (M : Memo) (d : ℕ) → resolve bodies' n (map uncut_look M) d ≡ uncut_ran uncut_outcome (resolve bodies n M d)
  unfolding resolve
  resolve-uncut zero M d = rw (put-uncut M d none)
  resolve-uncut (suc n) M d =
      rw (← put-uncut M d none, run-uncut (resolve bodies n) (resolve bodies' n) (resolve-uncut n) (each d) (put M d none), put-uncut)

  all-uncut : (n : ℕ) (declared : List ℕ) → resolve_all bodies' n declared ≡ map uncut_look (resolve_all bodies n declared)
  unfolding resolve_all
  all-uncut n declared =
      ap (λ (r : Ran (Unit {0})). r.memo) (rw (empty-uncut n) at (asking-uncut (resolve bodies n) (resolve bodies' n) (resolve-uncut n) declared (empty n)))

  -- what a computation gives after all declared types
  pub after-uncut : {m m' : Ask Outcome} (n : ℕ) (declared : List ℕ) → Alike uncut_tree m m'
      → uncut_outcome (run (resolve bodies n) (resolve_all bodies n declared) m).value ≡ (run (resolve bodies' n) (resolve_all bodies' n declared) m').value
  after-uncut n declared p =
      rw (all-uncut n declared, run-uncut (resolve bodies n) (resolve bodies' n) (resolve-uncut n) p (resolve_all bodies n declared))
