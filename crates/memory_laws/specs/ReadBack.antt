-- A tree that is written and read back is what Same.antt says. Assumes nothing.
use Rattle.std.specs.Prelude.{◌≡◌, refl, Bool, true, false, ◌&&◌, List, [], ◌∷◌, ◌++◌, ℕ, ◌+◌, eqb, length, take, drop}
use Rattle.std.proofs.Math.Path.{ap}
use Rattle.std.proofs.Common.{sym, ◌∙◌, take_at, drop_at}
use Rattle.definition.specs.declared.records.Shape.{Shape}
use Rattle.definition.specs.Base.{pick}
use Rattle.definition.specs.Records.{constant_of}
use Rattle.definition.specs.Tree.{Node}
use Rattle.laws.specs.Cases.{both}
use Rattle.memory_definition.specs.declared.form.Form.{Form}
use Rattle.memory_definition.specs.declared.form.Form.TheVariants as form
use Rattle.memory_definition.specs.Cells.{Cell, cell}
use Rattle.memory_definition.specs.Numbers.{literal, literal_read}
use Rattle.memory_definition.specs.Forms.{Characters, stored, is_head, form_at, form_of, held_as, held, narrow, bytes_as, bytes, real_read, string_read, node_as, node_read, text_read, same_bytes, listed, readable}
use Rattle.memory_definition.specs.Memory.{held_all, narrow_all, bytes_all, size, readable_all, text_all, node_words_of, nodes_all}
use Rattle.memory_laws.specs.Bytes.{bytes_same}
use Rattle.memory_laws.specs.Fits.{fitting, again-form, Literals, literal-leaf, literal-stored, literal-form}
use Rattle.memory_laws.specs.Lengths.{bytes-long}
use Rattle.memory_laws.specs.Same.{as_read, text_of, nodes_as_read, texts_of, Sized, SizedAll}
use Rattle.memory_laws.specs.ReadForms.{Back, back}

-- ---- what is read in place of a node has the node's form
-- the kind of what is read
unfoldable pub kind_as : Form → ℕ → ℕ
kind_as form.Head kind = kind
kind_as form.Null kind = 10
kind_as form.Bool kind = 0
kind_as (form.Number signed bits own width) kind = own
kind_as form.Real kind = 3
kind_as form.LongReal kind = 3
kind_as (form.String most width) kind = 8
kind_as (form.Enumeration first count) kind = 9
kind_as form.Nothing kind = 0

pub kind-read : (f : List ℕ) (F : Form) (at : ℕ) (c : Cell) (bs : List ℕ) → (node_as f F at c bs).kind ≡ kind_as F c.node.kind
unfolding kind_as node_as literal_read literal real_read string_read constant_of
kind-read f form.Head at c bs = refl
kind-read f form.Null at c bs = refl
kind-read f form.Bool at c bs = refl
kind-read f (form.Number signed bits kind width) at c bs = refl
kind-read f form.Real at c bs = refl
kind-read f form.LongReal at c bs = refl
kind-read f (form.String most width) at c bs = refl
kind-read f (form.Enumeration first count) at c bs = refl
kind-read f form.Nothing at c bs = refl

other-kind : (F : Form) (kind : ℕ) → Literals F → is_head kind ≡ false → eqb kind 10 ≡ false
    → pick (is_head (kind_as F kind)) form.Head (pick (eqb (kind_as F kind) 10) form.Null F) ≡ F
unfolding kind_as is_head
other-kind form.Head kind l p q = rw (p, q)
other-kind form.Null kind l p q = refl
other-kind form.Bool kind l p q = refl
other-kind (form.Number signed bits own width) kind l p q = let x = literal-leaf signed own width l in rw (x.0, x.1)
other-kind form.Real kind l p q = refl
other-kind form.LongReal kind l p q = refl
other-kind (form.String most width) kind l p q = refl
other-kind (form.Enumeration first count) kind l p q = refl
other-kind form.Nothing kind l p q = refl

form-at : (f : List ℕ) (s : Shape) (kind : ℕ) → form_at f s (kind_as (form_at f s kind) kind) ≡ form_at f s kind
unfolding form_at kind_as is_head
form-at f s kind = go (is_head kind) (eqb kind 10) refl refl
  where
    go : (b n : Bool) → is_head kind ≡ b → eqb kind 10 ≡ n
        → form_at f s (kind_as (pick b form.Head (pick n form.Null (stored f s))) kind) ≡ pick b form.Head (pick n form.Null (stored f s))
    go true n p q = rw p
    go false true p q = refl
    go false false p q = other-kind (stored f s) kind (literal-stored f s) p q

pub form-again : (f : List ℕ) (c : Cell) (h : Node) → h.kind ≡ kind_as (form_of f c) c.node.kind → form_of f (cell c.shape h) ≡ form_of f c
unfolding form_of
form-again f c h e = ap (form_at f c.shape) e ∙ form-at f c.shape c.node.kind

-- ---- one node
module _ (f : List ℕ) (text : Characters) (c : Cell) (s : Sized f c) where
  module _ (h : held f c ≡ true) (n : narrow f text c ≡ true) where
    backs : Back f text c (form_of f c)
    unfolding held narrow
    backs = back f text c (form_of f c) (record { fits = fitting f c; again = again-form f c; literals = literal-form f c; sizes = s.form; words = s.words }) n h

    pub node-back : (at : ℕ) → node_read f at c (bytes f text c) ≡ as_read f at c
    unfolding node_read bytes as_read
    node-back at = backs.node at

    pub characters-back : text_read f c (bytes f text c) ≡ text_of f text c
    unfolding text_read bytes text_of
    characters-back = backs.read

    form-back : form_of f (cell c.shape (as_read f 0 c)) ≡ form_of f c
    unfolding node_read
    form-back = form-again f c (as_read f 0 c) (ap (λ x. x.kind) (sym (node-back 0)) ∙ kind-read f (form_of f c) 0 c (bytes f text c))

    held_back : held f (cell c.shape (as_read f 0 c)) ≡ true
    unfolding held as_read
    held_back = ap (λ F. held_as f F (cell c.shape (as_read f 0 c))) form-back ∙ backs.kept

    bytes_back : bytes f (listed (text_of f text c)) (cell c.shape (as_read f 0 c)) ≡ bytes f text c
    unfolding bytes as_read text_of
    bytes_back = ap (λ F. bytes_as f F (listed (text_of f text c)) (cell c.shape (as_read f 0 c))) form-back ∙ backs.same

    pub readable-back : readable f c (bytes f text c) ≡ true
    unfolding readable
    readable-back =
        ap (λ x. held f (cell c.shape x) && same_bytes (bytes f (listed (text_read f c (bytes f text c))) (cell c.shape x)) (bytes f text c)) (node-back 0)
        ∙ ap (λ t. held f (cell c.shape (as_read f 0 c)) && same_bytes (bytes f (listed t) (cell c.shape (as_read f 0 c))) (bytes f text c)) characters-back
        ∙ ap (λ b. b && same_bytes (bytes f (listed (text_of f text c)) (cell c.shape (as_read f 0 c))) (bytes f text c)) held_back
        ∙ ap (λ l. same_bytes l (bytes f text c)) bytes_back
        ∙ bytes_same (bytes f text c)

    pub read-written : (at : ℕ)
        → (node_read f at c (bytes f text c) ≡ as_read f at c) × (text_read f c (bytes f text c) ≡ text_of f text c) × (readable f c (bytes f text c) ≡ true)
    read-written at = (node-back at, characters-back, readable-back)

-- ---- a whole tree
pub record ReadBack (f : List ℕ) (text : Characters) (cs : List Cell) : Type 0 where
  pub readable : readable_all f cs (bytes_all f text cs) ≡ true
  pub nodes : (at : ℕ) → nodes_all f at cs (bytes_all f text cs) ≡ nodes_as_read f text at cs
  pub texts : text_all f cs (bytes_all f text cs) ≡ texts_of f text cs

-- the first node's bytes, and what is left
module _ (f : List ℕ) (text : Characters) (c : Cell) (cs : List Cell) (h : held f c ≡ true) where
  own-bytes : take (size f c) (bytes f text c ++ bytes_all f text cs) ≡ bytes f text c
  own-bytes = take_at (bytes f text c) (bytes_all f text cs) (size f c) (bytes-long f text c h)

  more_bytes : drop (size f c) (bytes f text c ++ bytes_all f text cs) ≡ bytes_all f text cs
  more_bytes = drop_at (bytes f text c) (bytes_all f text cs) (size f c) (bytes-long f text c h)

pub written-read-back : (f : List ℕ) (text : Characters) (cs : List Cell) → SizedAll f cs → held_all f cs ≡ true → narrow_all f text cs ≡ true → ReadBack f text cs
unfolding held_all narrow_all bytes_all readable_all text_all nodes_all nodes_as_read texts_of
written-read-back f text [] s h n = record { readable = refl; nodes = λ at. refl; texts = refl }
written-read-back f text (c ∷ cs) s h n =
    let hs = both (held f c) (held_all f cs) h in
    let ns = both (narrow f text c) (narrow_all f text cs) n in
    let one = read-written f text c s.0 hs.0 ns.0 in
    let rest = written-read-back f text cs s.1 hs.1 ns.1 in
    let own = own-bytes f text c cs hs.0 in
    let more = more_bytes f text c cs hs.0 in
    record {
      readable = rw (own, more, (one 0).2) rest.readable;
      nodes = λ at. rw (own, more, (one at).0, (one at).1) (ap (λ l. node_words_of (as_read f at c) ++ l) (rest.nodes (at + length (text_of f text c))));
      texts = rw (own, more, (one 0).1) (ap (λ l. text_of f text c ++ l) rest.texts);
    }
