-- A law for each return of put.rt. Assumes nothing.
use borrow.Enum.Refused.{opened}
use types.Run.{OneOf, miss}
use denote.Enum.Declared.{tag_of}
use Rattle.memory_definition.specs.contracts.form.Form.{the_type}
use mathlib.Core.Path.{◌≡◌, refl, ap, sym, subst, ◌∙◌}
use mathlib.Core.List.{List, [], ◌∷◌}
use Prim.Native.Nat.{ℕ, zero, suc, ◌+◌, ◌-◌, ◌*◌, ◌^◌, ◌≤◌, ◌<◌}
use native.Mathlib.Omega.{arith}
use native.Mathlib.Nat.{mul-suc, mul-le-mul_left, pow-le-pow_right}
use lib.ListN.{length, take, drop}
use lib.Seq.{take-take, drop-drop}
use mir.Syntax.{w32}
use mir.Val.{Fits}
use borrow.Author.Rules.{rules}
use borrow.Author.Tests.{le-leb}
use Rattle.laws.specs.Puts.{Puts, puts_none, put_one}
use Rattle.text.proofs.Putting.{Putting, putting-first, putting-more, putting-done}
use Rattle.tree.specs.declared.node.Node.{Node}
use Rattle.tree.specs.Node.{as_node, words_of}
use Rattle.tree.specs.Words.{WroteNode}
use Rattle.definition.specs.Tree as tree
use Rattle.memory_definition.specs.declared.form.Form.{Form}
use Rattle.memory_definition.specs.declared.form.Form.TheVariants as form
use Rattle.memory_definition.specs.Numbers.{number_from, length_from, character_bytes, text_from, string_from}
use Rattle.memory_definition.specs.Memory.{node_words_of}
use Rattle.memory_definition.specs.Forms.{size_as, text_as}
use Rattle.memory_laws.specs.Bytes.{text-many}
use Rattle.memory_nodes.specs.Reading.{own, Few, drop-take, length-own}
use Rattle.memory_nodes.proofs.Nodes.{string-room, length-room}
use Rattle.std.specs.Prelude.{Option}

-- ---- characters one by one
text-next : (size many j : ℕ) (bytes : List ℕ) (place : ℕ) → j < many → text_from size (many - j) (drop place bytes) ≡ number_from (take size (drop place bytes)) ∷ text_from size (many - (j + 1)) (drop (place + size) bytes)
unfolding text_from
text-next size many j bytes place h =
    let e : many - j ≡ suc (many - (j + 1)) = omega arith in
    ap (λ k. text_from size k (drop place bytes)) e ∙ ap (λ l. number_from (take size (drop place bytes)) ∷ text_from size (many - (j + 1)) l) (drop-drop size place bytes)

text-empty : (size left : ℕ) (l : List ℕ) → left ≤ 0 → text_from size left l ≡ []
unfolding text_from
text-empty size left l h = let e : left ≡ 0 = omega arith in ap (λ k. text_from size k l) e

-- of so many characters from a place on, j are put
pub record Characters (width many : ℕ) (bytes : List ℕ) (from : ℕ) (old : List ℕ) (at size place end j : ℕ) (now : List ℕ) : Type 0 where
  pub putting : Putting (text_from (character_bytes width) many (drop from bytes)) old at (text_from size (many - j) (drop place bytes)) now end
  pub sized : size ≡ character_bytes width
  pub small : size ≤ 2
  pub inside : place + size * (many - j) ≤ length bytes

pub characters-first : (width many : ℕ) (bytes : List ℕ) (from : ℕ) (old : List ℕ) (at : ℕ) {size : ℕ} → size ≡ character_bytes width → size ≤ 2 → from + character_bytes width * many ≤ length bytes → at + many ≤ length old
    → Characters width many bytes from old at size from at 0 old
characters-first width many bytes from old at {size} e s h g =
    let all : many - 0 ≡ many = omega arith in
    record {
      putting =
          rw (e, all)
          (putting-first (text_from (character_bytes width) many (drop from bytes)) old at (omega (arith, text-many (character_bytes width) many (drop from bytes))));
      sized = e;
      small = s;
      inside = rw (all, e) h;
    }

module _ {width many : ℕ} {bytes : List ℕ} {from : ℕ} {old : List ℕ} {at size place end j : ℕ} {now : List ℕ} (x : Characters width many bytes from old at size place end j now) where
  module _ (h : j < many) where
    left_is : size * (many - j) ≡ size * (many - (j + 1)) + size
    left_is = let e : many - j ≡ suc (many - (j + 1)) = omega arith in ap (λ k. size * k) e ∙ mul-suc size (many - (j + 1))

    pub character-there : place + size ≤ length bytes
    character-there = omega (arith, x.inside, left_is)

    pub character-room : end < length now
    character-room = omega (arith, x.putting.room, text-many size (many - j) (drop place bytes))

    pub character-fits : {n : ℕ} → n < 256 ^ size → Fits w32 n
    character-fits l = record { fits = omega (arith, l, pow-le-pow_right {n = 256} (omega arith) {i = size} {j = 2} x.small) }

    pub characters-more : {n e : ℕ} {new : List ℕ} → n ≡ number_from (take size (drop place bytes)) → Puts (n ∷ []) now end e new → Characters width many bytes from old at size (place + size) e (j + 1) new
    characters-more {n} i p =
        record {
          putting = putting-more x.putting p (text_from size (many - (j + 1)) (drop (place + size) bytes)) (text-next size many j bytes place h ∙ ap (λ k. k ∷ text_from size (many - (j + 1)) (drop (place + size) bytes)) (sym i));
          sized = x.sized;
          small = x.small;
          inside = omega (arith, x.inside, left_is);
        }

  pub characters-done : many ≤ j → Puts (text_from (character_bytes width) many (drop from bytes)) old at end now
  characters-done h = putting-done x.putting (text-empty size (many - j) (drop place bytes) (omega arith))

-- ---- the characters of a form
module _ (fm : Form) (bs : List ℕ) where
  pub none-length : text_as fm bs ≡ [] → 0 ≡ length (text_as fm bs)
  none-length e = sym (ap length e)

  pub none-puts : (old : List ℕ) (at : ℕ) → text_as fm bs ≡ [] → at + length (text_as fm bs) ≤ length old → Puts (text_as fm bs) old at at old
  none-puts old at e h = rw e (puts_none old at (omega (arith, h)))

-- every form but a string
abbrev textless : List ℕ
textless = 0 ∷ 1 ∷ 2 ∷ 3 ∷ 4 ∷ 5 ∷ 7 ∷ 8 ∷ []

pub no-text : (fm : Form) (bs : List ℕ) → OneOf textless (tag_of the_type fm) → text_as fm bs ≡ []
unfolding text_as
no-text form.Head bs h = refl
no-text form.Null bs h = refl
no-text form.Bool bs h = refl
no-text (form.Number signed bits kind width) bs h = refl
no-text form.Real bs h = refl
no-text form.LongReal bs h = refl
no-text (form.String most width) bs h = absurd (miss textless 6 tt h)
no-text (form.Enumeration first count) bs h = refl
no-text form.Nothing bs h = refl

text-take : (size k x : ℕ) (l : List ℕ) → size * k ≤ x → text_from size k (take x l) ≡ text_from size k l
unfolding text_from
text-take size zero x l h = refl
text-take size (suc k) x l h =
    let more : size * suc k ≡ size * k + size = mul-suc size k in
    let parts : x ≡ size + (x - size) = omega arith in
    let rest : drop size (take x l) ≡ take (x - size) (drop size l) = ap (λ j. drop size (take j l)) parts ∙ drop-take size (x - size) l in
    rw (take-take size x l (omega arith), rest) (ap (λ t. number_from (take size l) ∷ t) (text-take size k (x - size) (drop size l) (omega arith)))

module _ (fm : Form) (bytes : List ℕ) (from : ℕ) {most width : ℕ} (e : fm ≡ form.String most width) {many : ℕ} (i : many ≡ number_from (take 2 (drop (from + 2) bytes))) where
  abbrev size : ℕ
  size = character_bytes width

  many-own : length_from (own fm bytes from) ≡ many
  unfolding size_as
  many-own = rw e (length-own (size * most) bytes from ∙ sym i)

  pub string-length : many ≡ length (text_as fm (own fm bytes from))
  unfolding text_as string_from
  string-length = sym many-own ∙ rw e (sym (text-many size _ _))

  pub text-room : (at : ℕ) {l : ℕ} → at + length (text_as fm (own fm bytes from)) ≤ l → at + many ≤ l
  text-room at h = omega (arith, h, string-length)

  few-own : Few fm (own fm bytes from) → many ≤ most
  few-own h =
      let q : length_from (own fm bytes from) ≤ most = subst (λ (g : Form). Few g (own fm bytes from)) e h in
      omega (arith, q, many-own)

  pub text-there : Few fm (own fm bytes from) → from + size_as fm ≤ length bytes → from + 4 + size * many ≤ length bytes
  text-there h l = omega (arith, string-room fm from l most width e, mul-le-mul_left size (few-own h))

  string-own : Few fm (own fm bytes from) → text_as fm (own fm bytes from) ≡ text_from size many (drop (from + 4) bytes)
  unfolding text_as string_from size_as
  string-own h =
      let room : size * many ≤ size * most = mul-le-mul_left size (few-own h) in
      let known : length_from (take (4 + size * most) (drop from bytes)) ≡ many = length-own (size * most) bytes from ∙ sym i in
      rw (e, known, drop-take 4 (size * most) (drop from bytes)) (text-take size many (size * most) (drop 4 (drop from bytes)) room ∙ ap (text_from size many) (drop-drop 4 from bytes))

  pub string-puts : Few fm (own fm bytes from) → {old new : List ℕ} {at r : ℕ} → Puts (text_from size many (drop (from + 4) bytes)) old at r new → Puts (text_as fm (own fm bytes from)) old at r new
  string-puts h p = rw (string-own h) p

-- ---- nodes
pub node-puts : (old : List ℕ) (at : ℕ) (n : Node) {r : Option ℕ} {new : List ℕ} → at + 6 ≤ length old → WroteNode old at (words_of n) r new → Puts (words_of n) old at (at + 6) new
node-puts old at n h w = record { ends = refl; fits = h; is = w.is ∙ rw (le-leb (at + 6) (length old) h) }

pub read-puts : (h : tree.Node) {n : Node} → n ≡ as_node h → {old new : List ℕ} {at r : ℕ} → Puts (words_of n) old at r new → Puts (node_words_of h) old at r new
unfolding node_words_of
read-puts h {n} e {old} {new} {at} {r} p = subst (λ (m : Node). Puts (words_of m) old at r new) e p

pub ruleset characters = (rules, put_one, characters-first, character-there, character-room, character-fits, characters-more, characters-done)

pub ruleset texts = (rules, opened, none-length, none-puts, no-text, length-room, string-length, text-room, text-there, string-puts)

pub ruleset nodes = (rules, node-puts, read-puts)
