-- Which bytes a node is written as, asked of the bytes: what is read from them is held, they are as many as its form has, and the form's own test. Assumes nothing.
use Rattle.std.specs.Prelude.{◌≡◌, refl, Bool, true, ◌&&◌, eqb, leb}
use Rattle.std.proofs.Math.Path.{sym, ap, subst}
use Rattle.std.proofs.Common.{◌∙◌, arith, mul-suc, le_of_suc-le-suc, lt_of_not-le, mod-eq_of_lt, lit<, length-append, take-append-drop, take_at, drop_at, take-add}
use Rattle.std.proofs.Math.Bool.{false}
use mathlib.Core.List.{List, [], ◌∷◌, ◌++◌, append_assoc}
use Prim.Native.Nat.{ℕ, zero, suc, ◌+◌, ◌-◌, ◌*◌, ◌/◌, ◌%◌, ◌^◌, ◌≤◌, ◌<◌}
use Rattle.std.proofs.Math.Nat.{mul-le-mul_left, mul-sub}
use Rattle.std.proofs.Math.Dec.{eqb-suc-zero}
use Rattle.std.proofs.Math.ListN.{length, take, drop, replicate, length-drop}
use Rattle.std.proofs.lemmas.List.{length-replicate}
use Rattle.std.proofs.Math.Seq.{length-take-le}
use Rattle.std.specs.Float.Ieee.{binary32, binary64, nan_bits}
use borrow.Author.Tests.{eqb-true, eq-eqb, leb-true, le-leb, not-true}
use Rattle.definition.specs.declared.records.Constant.{Constant}
use Rattle.definition.specs.Base.{unused}
use Rattle.definition.specs.Layout.{members}
use Rattle.definition.specs.Places.{first_named}
use Rattle.definition.specs.Records.{constant_of}
use Rattle.definition.specs.Scalar.{size_of}
use Rattle.laws.specs.Cases.{never, both, on-pick}
use Rattle.memory_definition.specs.declared.form.Form.{Form}
use Rattle.memory_definition.specs.declared.form.Form.TheVariants as form
use Rattle.memory_definition.specs.Cells.{Cell, cell}
use Rattle.memory_definition.specs.Numbers.{little_endian, number_from, complement, literal_read, narrowed, widened, character_bytes, text_bytes, string_bytes, text_from, length_from, string_from}
use Rattle.memory_definition.specs.Forms.{form_of, constant_on, held_constant, member_link, held_as, held, text_on, size_as, bytes_as, bytes, node_of, real_read, string_read, node_as, node_read, text_as, text_read, same_bytes, listed, readable}
use Rattle.memory_laws.specs.Bytes.{Bytes, bytes_take, bytes_drop, le-long, le_bytes, number-le, number_lt, le-number, same_bytes_lem, bytes_same, text-long, text-many, text-back, joined-parts, complement-read}
use Rattle.memory_laws.specs.Strings.{listed-own}
use Rattle.memory_laws.specs.ReadForms.{bytes_pow}
use Rattle.memory_laws.specs.ReadBack.{kind-read, form-again}
use Rattle.memory_laws.specs.Reals.{widened-nan, narrowed-widened}
use Rattle.memory_laws.specs.Same.{SizedAs}

-- ---- what a string asks of its bytes: its greatest length, its length, and zeros behind its characters
unfoldable pub string_fills : ℕ → ℕ → List ℕ → Bool
string_fills most width bs =
    eqb (number_from (take 2 bs)) (most % 65536) && (leb (length_from bs) most && unused (drop (4 + character_bytes width * length_from bs) bs))

-- ---- what each form asks of the bytes, beside their number, where the node read from them is held and `low` is its word
unfoldable pub fills : List ℕ → Form → ℕ → List ℕ → Bool
fills f form.Head low bs = true
fills f form.Null low bs = eqb (number_from bs) 0
fills f form.Bool low bs = true
fills f (form.Number signed bits kind width) low bs = true
fills f form.Real low bs = true
fills f form.LongReal low bs = true
fills f (form.String most width) low bs = string_fills most width bs
-- a member's first place
fills f (form.Enumeration first count) low bs = eqb (number_from bs) ((first_named f members low first count - suc first) % 65536)
fills f form.Nothing low bs = false

unfoldable pub readable_by : List ℕ → Form → Cell → List ℕ → Bool
readable_by f form d bs = held f d && (eqb (length bs) (size_as form) && fills f form d.node.low bs)

-- ---- tests
same-iff : (a b : Bool) → (a ≡ true → b ≡ true) → (b ≡ true → a ≡ true) → a ≡ b
same-iff true true g h = refl
same-iff true false g h = never (g refl)
same-iff false true g h = never (h refl)
same-iff false false g h = refl

pub both_true : {a b : Bool} → a ≡ true → b ≡ true → a && b ≡ true
both_true e g = rw (e, g)

and_same : (a b c : Bool) → (a ≡ true → b ≡ c) → a && b ≡ a && c
and_same true b c h = h refl
and_same false b c h = refl

-- two lists of bytes are the same where a test says so
same_test : (ls bs : List ℕ) (t : Bool) → (t ≡ true → ls ≡ bs) → (ls ≡ bs → t ≡ true) → same_bytes ls bs ≡ t
same_test ls bs t g h = same-iff (same_bytes ls bs) t (λ e. h (same_bytes_lem ls bs e)) (λ e. rw (g e) (bytes_same bs))

-- ---- numbers
module _ (k n : ℕ) (bs : List ℕ) (b : Bytes bs) where
  le-own : length bs ≡ k → n % 256 ^ k ≡ number_from bs → little_endian k n ≡ bs
  le-own e h =
      let own : little_endian k (n % 256 ^ k) ≡ little_endian k n =
      ap (λ x. little_endian k x) (sym (number-le k n)) ∙ ap (λ x. little_endian x (number_from (little_endian k n))) (sym (le-long k n)) ∙ le-number (little_endian k n) (le_bytes k n) in
      sym own ∙ ap (λ x. little_endian k x) h ∙ ap (λ x. little_endian x (number_from bs)) (sym e) ∙ le-number bs b

  le_same : same_bytes (little_endian k n) bs ≡ eqb (length bs) k && eqb (number_from bs) (n % 256 ^ k)
  le_same =
      same_test (little_endian k n) bs _
      (λ e. let x = both (eqb (length bs) k) (eqb (number_from bs) (n % 256 ^ k)) e in
      le-own (eqb-true (length bs) k x.0) (sym (eqb-true (number_from bs) (n % 256 ^ k) x.1)))
      (λ e. both_true (eq-eqb (length bs) k (sym (ap length e) ∙ le-long k n)) (eq-eqb (number_from bs) (n % 256 ^ k) (sym (ap number_from e) ∙ number-le k n)))

  -- a number that is read from so many bytes is written as these
  le_read : (length bs ≡ k → n ≡ number_from bs) → same_bytes (little_endian k n) bs ≡ eqb (length bs) k && true
  le_read h =
      same_test (little_endian k n) bs _
      (λ e. let i : length bs ≡ k = eqb-true (length bs) k (both (eqb (length bs) k) true e).0 in
      ap (λ x. little_endian k x) (h i) ∙ ap (λ x. little_endian x (number_from bs)) (sym i) ∙ le-number bs b)
      (λ e. both_true (eq-eqb (length bs) k (sym (ap length e) ∙ le-long k n)) refl)

null-same : (bs : List ℕ) → Bytes bs → same_bytes (replicate 4 0) bs ≡ eqb (length bs) 4 && eqb (number_from bs) 0
unfolding little_endian
null-same bs b = le_same 4 0 bs b

none-same : (bs : List ℕ) → same_bytes [] bs ≡ eqb (length bs) 0 && true
unfolding same_bytes
none-same [] = refl
none-same (b ∷ bs) = rw (eqb-suc-zero (length bs))

-- ---- literals
pub whole-bytes : (bits : ℕ) → 8 * (bits / 8) ≡ bits → 256 ^ (bits / 8) ≡ 2 ^ bits
whole-bytes bits e = bytes_pow (bits / 8) ∙ ap (λ x. 2 ^ x) e

-- a literal's number does not depend on its last word
on-node : (bits : ℕ) (c : Constant) → complement bits (constant_on (node_of c)) ≡ complement bits c
unfolding constant_on constant_of complement size_of
on-node bits c = refl

real-size : (n : ℕ) → size_of (constant_on (real_read n)) ≡ n
unfolding real_read size_of constant_on constant_of
real-size n = joined-parts n

-- ---- strings
unused-zeros : (l : List ℕ) → unused l ≡ true → l ≡ replicate (length l) 0
unfolding unused
unused-zeros [] e = refl
unused-zeros (w ∷ ws) e = let x = both (eqb w 0) (unused ws) e in rw (eqb-true w 0 x.0) (ap (λ l. 0 ∷ l) (unused-zeros ws x.1))

zeros-unused : (n : ℕ) → unused (replicate n 0) ≡ true
unfolding unused
zeros-unused zero = refl
zeros-unused (suc n) = zeros-unused n

string-text : (width : ℕ) (bs : List ℕ) → text_on (listed (string_from width bs)) (string_read 0 (length_from bs) width) ≡ string_from width bs
unfolding text_on string_read constant_of string_from
string-text width bs =
    let many : ℕ = length_from bs in
    listed-own (text_from (character_bytes width) many (drop 4 bs)) many (text-many (character_bytes width) many (drop 4 bs))

width_some : (width : ℕ) → 0 < character_bytes width
unfolding character_bytes
width_some width = on-pick (λ (x : ℕ). 0 < x) (eqb width 0) 1 2 (λ e. lit< tt) (λ e. lit< tt)

-- four pieces of a list
pieces : (n : ℕ) (bs : List ℕ) → take 2 bs ++ take 2 (drop 2 bs) ++ take n (drop 4 bs) ++ drop (4 + n) bs ≡ bs
pieces n bs =
    ap (λ l. l ++ take n (drop 4 bs) ++ drop (4 + n) bs) (sym (take-add 2 2 bs))
    ∙ ap (λ l. l ++ drop (4 + n) bs) (sym (take-add 4 n bs))
    ∙ take-append-drop (4 + n) bs

module _ (most size many : ℕ) (cs bs : List ℕ) (known : length cs ≡ many) (some : 0 < size) where
  abbrev front : List ℕ
  front = little_endian 2 most ++ little_endian 2 (length cs) ++ text_bytes size cs

  abbrev written : List ℕ
  written = front ++ replicate (size * (most - length cs)) 0

  front_length : length front ≡ 4 + size * many
  front_length =
      omega (arith, length-append (little_endian 2 most ++ little_endian 2 (length cs)) (text_bytes size cs), length-append (little_endian 2 most) (little_endian 2 (length cs)), le-long 2 most, le-long 2 (length cs), text-long size cs, ap (λ x. size * x) known)

  written-length : length written ≡ 4 + size * many + size * (most - many)
  written-length =
      omega (arith, length-append front (replicate (size * (most - length cs)) 0), front_length, length-replicate {A = ℕ} (size * (most - length cs)) 0, ap (λ x. size * (most - x)) known)

  few : written ≡ bs → length bs ≤ 4 + size * most → many ≤ most
  few e h =
      le_of_suc-le-suc (lt_of_not-le (λ (l : suc most ≤ many). omega (arith, ap length e, written-length, mul-le-mul_left size l, mul-suc size most)))

  zeros-left : many ≤ most → size * (most - many) + size * many ≡ size * most
  zeros-left h = omega (arith, mul-sub size most many, mul-le-mul_left size h)

  string-there : Bytes bs → length_from bs ≡ many → cs ≡ text_from size many (drop 4 bs) → length bs ≡ 4 + size * most → many ≤ most → number_from (take 2 bs) ≡ most % 65536
      → unused (drop (4 + size * many) bs) ≡ true → written ≡ bs
  unfolding length_from
  string-there b long is all h n z =
      let room : size * many ≤ size * most = mul-le-mul_left size h in
      let second : List ℕ = take 2 (drop 2 bs) in
      let two : length second ≡ 2 = length-take-le 2 (drop 2 bs) (omega (arith, length-drop 2 bs)) in
      let small : number_from second < 256 ^ 2 = subst (λ (x : ℕ). number_from second < 256 ^ x) two (number_lt second (bytes_take 2 (drop 2 bs) (bytes_drop 2 bs b))) in
      let p : little_endian 2 most ≡ take 2 bs = le-own 2 most (take 2 bs) (bytes_take 2 bs b) (length-take-le 2 bs (omega arith)) (sym n) in
      let q : little_endian 2 (length cs) ≡ second =
      le-own 2 (length cs) second (bytes_take 2 (drop 2 bs) (bytes_drop 2 bs b)) two (rw (known, ← long) (mod-eq_of_lt small)) in
      let r : text_bytes size cs ≡ take (size * many) (drop 4 bs) = rw is (text-back size many (drop 4 bs) (bytes_drop 4 bs b) (omega (arith, length-drop 4 bs))) in
      let rest : List ℕ = drop (4 + size * many) bs in
      let left : length rest ≡ size * (most - length cs) = rw known (omega (arith, length-drop (4 + size * many) bs, zeros-left h)) in
      let t : replicate (size * (most - length cs)) 0 ≡ rest = ap (λ x. replicate x 0) (sym left) ∙ sym (unused-zeros rest z) in
      rw (p, q, r, t) (pieces (size * many) bs)

  string-first : written ≡ bs → number_from (take 2 bs) ≡ most % 65536
  string-first e =
      let low : List ℕ = little_endian 2 most in
      let high : List ℕ = little_endian 2 (length cs) in
      let tail : List ℕ = replicate (size * (most - length cs)) 0 in
      let whole : written ≡ low ++ (high ++ (text_bytes size cs ++ tail)) = simp append_assoc in
      ap (λ l. number_from (take 2 l)) (sym e ∙ whole) ∙ ap number_from (take_at low (high ++ (text_bytes size cs ++ tail)) 2 (le-long 2 most)) ∙ number-le 2 most

  string-last : written ≡ bs → unused (drop (4 + size * many) bs) ≡ true
  string-last e =
      let tail : List ℕ = replicate (size * (most - length cs)) 0 in
      rw (← e, drop_at front tail (4 + size * many) front_length) (zeros-unused (size * (most - length cs)))

string-same : (most width : ℕ) (bs : List ℕ) → Bytes bs → length bs ≤ 4 + character_bytes width * most
    → same_bytes (string_bytes most width (string_from width bs)) bs ≡ eqb (length bs) (4 + character_bytes width * most) && string_fills most width bs
unfolding string_bytes string_from string_fills
string-same most width bs b short =
    let size : ℕ = character_bytes width in
    let many : ℕ = length_from bs in
    let cs : List ℕ = text_from size many (drop 4 bs) in
    let known : length cs ≡ many = text-many size many (drop 4 bs) in
    let some : 0 < size = width_some width in
    let all : Bool = eqb (length bs) (4 + size * most) in
    let first : Bool = eqb (number_from (take 2 bs)) (most % 65536) in
    let inside : Bool = leb many most in
    let last : Bool = unused (drop (4 + size * many) bs) in
    same_test (written most size many cs bs known some) bs (all && (first && (inside && last)))
    (λ e.
    let x = both all (first && (inside && last)) e in
    let y = both first (inside && last) x.1 in
    let z = both inside last y.1 in
    string-there most size many cs bs known some b refl refl (eqb-true (length bs) (4 + size * most) x.0) (leb-true many most z.0) (eqb-true (number_from (take 2 bs)) (most % 65536) y.0) z.1)
    (λ e.
    let l : many ≤ most = few most size many cs bs known some e short in
    let long : length bs ≡ 4 + size * most = omega (arith, ap length e, written-length most size many cs bs known some, zeros-left most size many cs bs known some l) in
    both_true (eq-eqb (length bs) (4 + size * most) long)
    (both_true (eq-eqb (number_from (take 2 bs)) (most % 65536) (string-first most size many cs bs known some e))
    (both_true (le-leb many most l) (string-last most size many cs bs known some e))))

-- ---- each form
module _ (f : List ℕ) (s : Cell) (bs : List ℕ) (b : Bytes bs) where
  abbrev read : Form → Cell
  read fm = cell s.shape (node_as f fm 0 s bs)

  real-back : length bs ≡ 4 → held_as f form.Real (read form.Real) ≡ true → narrowed (size_of (constant_on (real_read (widened (number_from bs))))) ≡ number_from bs
  unfolding held_as node_as
  real-back l h =
      let n : ℕ = number_from bs in
      let small : n < 2 ^ 32 = subst (λ (x : ℕ). n < 256 ^ x) l (number_lt bs b) in
      let no : nan_bits binary64 (size_of (constant_on (real_read (widened n)))) ≡ false = not-true _ (both (held_constant f (read form.Real)) _ h).1 in
      let plain : nan_bits binary32 n ≡ false = sym (widened-nan n) ∙ (rw (real-size (widened n)) at no) in
      ap narrowed (real-size (widened n)) ∙ narrowed-widened n small plain

  number-back : (signed : Bool) (bits kind width : ℕ) → 8 * (bits / 8) ≡ bits → length bs ≡ bits / 8 → complement bits (constant_on (node_of (literal_read signed bits kind width (number_from bs)))) ≡ number_from bs
  number-back signed bits kind width p l =
      let n : ℕ = number_from bs in
      let small : n < 2 ^ bits = subst (λ (x : ℕ). n < x) (ap (λ x. 256 ^ x) l ∙ whole-bytes bits p) (number_lt bs b) in
      on-node bits (literal_read signed bits kind width n) ∙ complement-read signed bits kind width n small

  nothing-held : (d : Cell) → held_as f form.Nothing d ≡ true → false ≡ true
  unfolding held_as
  nothing-held d h = h

  fills_same : (fm : Form) → SizedAs fm → length bs ≤ size_as fm → held_as f fm (read fm) ≡ true
      → same_bytes (bytes_as f fm (listed (text_as fm bs)) (read fm)) bs ≡ eqb (length bs) (size_as fm) && fills f fm (read fm).node.low bs
  unfolding bytes_as text_as size_as fills node_as constant_of member_link
  fills_same form.Head p l h = none-same bs
  fills_same form.Null p l h = null-same bs b
  fills_same form.Bool p l h = le_read 1 (number_from bs) bs b (λ e. refl)
  fills_same (form.Number signed bits kind width) p l h = le_read (bits / 8) _ bs b (λ e. number-back signed bits kind width p.1 e)
  fills_same form.Real p l h = le_read 4 _ bs b (λ e. real-back e h)
  fills_same form.LongReal p l h = le_read 8 _ bs b (λ e. real-size (number_from bs))
  fills_same (form.String most width) p l h = rw (string-text width bs) (string-same most width bs b l)
  fills_same (form.Enumeration first count) p l h = le_same 2 _ bs b
  fills_same form.Nothing p l h = never (nothing-held (read form.Nothing) h)

pub readable-by : (f : List ℕ) (c : Cell) (bs : List ℕ) → Bytes bs → SizedAs (form_of f c) → length bs ≤ size_as (form_of f c)
    → readable f c bs ≡ readable_by f (form_of f c) (cell c.shape (node_read f 0 c bs)) bs
unfolding readable readable_by held bytes text_read node_read
readable-by f c bs b p l =
    let fm : Form = form_of f c in
    let d : Cell = cell c.shape (node_as f fm 0 c bs) in
    let same : form_of f d ≡ fm = form-again f c (node_as f fm 0 c bs) (kind-read f fm 0 c bs) in
    and_same (held_as f (form_of f d) d) (same_bytes (bytes_as f (form_of f d) (listed (text_as fm bs)) d) bs) (eqb (length bs) (size_as fm) && fills f fm d.node.low bs)
    (λ h.
    ap (λ x. same_bytes (bytes_as f x (listed (text_as fm bs)) d) bs) same
    ∙ fills_same f c bs b fm p l (sym (ap (λ x. held_as f x d) same) ∙ h))
