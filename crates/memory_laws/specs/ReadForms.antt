-- One form after the other: what a node's bytes are read as, and that this is held and written as the same bytes. Assumes nothing.
use Rattle.std.specs.Prelude.{◌≡◌, Bool, not, ◌&&◌, ◌||◌, eqb}
use Rattle.std.proofs.Math.Path.{refl, ap}
use Rattle.std.proofs.Common.{sym, ◌∙◌, pow-add}
use Rattle.std.proofs.Math.Bool.{true, false}
use mathlib.Core.List.{List, [], ◌∷◌}
use Prim.Native.Nat.{ℕ, zero, suc, ◌+◌, ◌-◌, ◌*◌, ◌/◌, ◌%◌, ◌^◌, ◌≤◌, ◌<◌}
use native.Mathlib.Omega.{arith}
use Rattle.std.proofs.Math.Nat.{mod-eq_of_lt, pow-succ'}
use Rattle.std.proofs.Math.Dec.{leb}
use Rattle.std.specs.Float.Ieee.{binary32, binary64, nan_bits}
use Rattle.std.proofs.Math.ListN.{length}
use borrow.Author.Tests.{eqb-true, eqb-false, leb-true, le-leb, not-true}
use Rattle.definition.specs.declared.records.Constant.{Constant}
use Rattle.definition.specs.Base.{pick, joined, unused}
use Rattle.definition.specs.Layout.{word, count, shapes, members}
use Rattle.definition.specs.Records.{constant_of}
use Rattle.definition.specs.Accept.{constant_plain}
use Rattle.definition.specs.Scalar.{size_of, value_of}
use Rattle.definition.specs.Places.{first_named}
use Rattle.laws.specs.Cases.{never, both}
use Rattle.memory_definition.specs.declared.form.Form.{Form}
use Rattle.memory_definition.specs.declared.form.Form.TheVariants as form
use Rattle.memory_definition.specs.Cells.{Cell, cell}
use Rattle.memory_definition.specs.Numbers.{little_endian, number_from, complement, literal_read, narrowed, widened, string_bytes, length_from}
use Rattle.memory_definition.specs.Forms.{Characters, constant_on, fits_up_to, held_constant, held_head, member_link, held_as, characters_from, text_on, narrow_as, bytes_as, node_of, real_read, string_read, node_as, text_as, listed}
use Rattle.memory_laws.specs.Bytes.{number-le, joined-parts, parts-joined, joined-lt, Signed, up, down, plain-sign, Sided, plain, negative, natural, sided, complement-lt, complement-back}
use Rattle.memory_laws.specs.Reals.{widened-nan, narrowed-lt, narrowed-nan, narrowed-widened}
use Rattle.memory_laws.specs.Strings.{string-length, string-read, listed-own}
use Rattle.memory_laws.specs.Fits.{Plain, plain-held, held_by, held-width, Fitting, Again, Literal, integer, duration, time_of_day, date, date_and_time, Literals}
use Rattle.memory_laws.specs.Lengths.{characters-many}
use Rattle.memory_laws.specs.Same.{as_read_as, text_of_as, SizedAs, Words}

-- ---- plain constants
bool-low : (d : Constant) → d.kind ≡ 0 → Plain d → leb d.low 1 ≡ true
unfolding constant_plain
bool-low d k p =
    let x : leb d.low 1 && unused (d.sign ∷ d.high ∷ d.width ∷ []) ≡ true = rw k at p in
    (both (leb d.low 1) (unused (d.sign ∷ d.high ∷ d.width ∷ [])) x).0

bool-plain : (low : ℕ) → leb low 1 ≡ true → constant_plain 0 0 low 0 0 ≡ true
unfolding constant_plain unused
bool-plain low l = rw l

real-plain : (low high : ℕ) → constant_plain 3 0 low high 0 ≡ true
unfolding constant_plain unused
real-plain low high = refl

pub string-plain : (low high width : ℕ) → leb width 1 ≡ true → constant_plain 8 0 low high width ≡ true
unfolding constant_plain
string-plain low high width l = l

signed-plain : (sign low high : ℕ) → Signed sign (joined low high) → eqb sign 0 || (eqb sign 1 && not (unused (low ∷ high ∷ []))) ≡ true
unfolding unused joined
signed-plain sign low high (up z) = rw z
signed-plain sign low high (down z l) = rw z (go (eqb low 0) (eqb high 0) refl refl)
  where
    go : (a b : Bool) → eqb low 0 ≡ a → eqb high 0 ≡ b → not (a && (b && true)) ≡ true
    go true true p q = absurd (omega (arith, eqb-true low 0 p, eqb-true high 0 q))
    go true false p q = refl
    go false b p q = refl

literal-plain : (signed : Bool) (kind width sign low high : ℕ) → Literal signed kind width → Signed sign (joined low high) → (signed ≡ false → sign ≡ 0)
    → constant_plain kind sign low high width ≡ true
unfolding constant_plain unused
literal-plain signed kind width sign low high (integer k w) s n = rw (k, w, signed-plain sign low high s)
literal-plain signed kind width sign low high (duration k w) s n = rw (k, signed-plain sign low high s) (le-leb width 1 w)
literal-plain signed kind width sign low high (time_of_day k w z) s n = rw (k, n z) (le-leb width 1 w)
literal-plain signed kind width sign low high (date k w z) s n = rw (k, n z) (le-leb width 1 w)
literal-plain signed kind width sign low high (date_and_time k w z) s n = rw (k, n z) (le-leb width 1 w)

-- an unsigned number has no sign
no_sign : (signed : Bool) (bits sign n : ℕ) → Sided signed bits sign n → signed ≡ false → sign ≡ 0
no_sign signed bits sign n (plain z s l) e = z
no_sign signed bits sign n (negative z s p l) e = never (sym e ∙ s)
no_sign signed bits sign n (natural z s l) e = z

-- a byte is eight bits
pub bytes_pow : (n : ℕ) → 256 ^ n ≡ 2 ^ (8 * n)
bytes_pow zero = refl
bytes_pow (suc n) =
    let e : 8 * suc n ≡ 8 + 8 * n = omega arith in
    pow-succ' 256 n ∙ ap (λ x. 256 * x) (bytes_pow n) ∙ sym (ap (λ x. 2 ^ x) e ∙ pow-add 2 8 (8 * n))

-- ---- members
-- a link that is one leads to a record of that name in the run
pub record Finds (f : List ℕ) (s name first count link : ℕ) : Type 0 where
  pub above : first < link
  pub below : link ≤ first + count
  pub is : word f s (first + (link - suc first)) 0 ≡ name

pub found : (f : List ℕ) (s name first count : ℕ) → eqb (first_named f s name first count) 0 ≡ false → Finds f s name first count (first_named f s name first count)
unfolding first_named
found f s name first zero e = absurd (eqb-false 0 0 e refl)
found f s name first (suc k) e = go (eqb (word f s first 0) name) refl e (found f s name (suc first) k)
  where
    go : (b : Bool) → eqb (word f s first 0) name ≡ b → eqb (pick b (suc first) (first_named f s name (suc first) k)) 0 ≡ false
        → (eqb (first_named f s name (suc first) k) 0 ≡ false → Finds f s name (suc first) k (first_named f s name (suc first) k))
        → Finds f s name first (suc k) (pick b (suc first) (first_named f s name (suc first) k))
    go true p q ih =
        let z : first + (suc first - suc first) ≡ first = omega arith in
        record { above = omega arith; below = omega arith; is = ap (λ n. word f s n 0) z ∙ eqb-true (word f s first 0) name p }
    go false p q ih =
        let x = ih q in
        let link : ℕ = first_named f s name (suc first) k in
        let z : first + (link - suc first) ≡ suc first + (link - suc (suc first)) = omega (arith, x.above) in
        record { above = omega (arith, x.above); below = omega (arith, x.below); is = ap (λ n. word f s n 0) z ∙ x.is }

-- ---- one form after the other: what its bytes are read as, and that this is held and written as the same bytes
pub record Back (f : List ℕ) (text : Characters) (c : Cell) (F : Form) : Type 0 where
  pub node : (at : ℕ) → node_as f F at c (bytes_as f F text c) ≡ as_read_as F at c.node
  pub read : text_as F (bytes_as f F text c) ≡ text_of_as F text c.node
  pub kept : held_as f F (cell c.shape (as_read_as F 0 c.node)) ≡ true
  pub same : bytes_as f F (listed (text_of_as F text c.node)) (cell c.shape (as_read_as F 0 c.node)) ≡ bytes_as f F text c

-- what is known of a node that is held, by its form
pub record Known (f : List ℕ) (c : Cell) (F : Form) : Type 0 where
  pub fits : held_constant f c ≡ true → Fitting F (constant_on c.node)
  pub again : (d : Constant) → held_constant f c ≡ true → Again F (constant_on c.node) d → fits_up_to f (suc (count f shapes)) c.shape d ≡ true
  pub literals : Literals F
  pub sizes : SizedAs F
  pub words : Words c

module _ (f : List ℕ) (text : Characters) (c : Cell) where
  back_head : held_as f form.Head c ≡ true → Back f text c form.Head
  unfolding held_as bytes_as node_as text_as text_of_as as_read_as held_head constant_of
  back_head e = record { node = λ at. refl; read = refl; kept = e; same = refl }

  back-null : Back f text c form.Null
  unfolding held_as bytes_as node_as text_as text_of_as as_read_as constant_of
  back-null = record { node = λ at. refl; read = refl; kept = refl; same = refl }

  back_bool : Known f c form.Bool → held_as f form.Bool c ≡ true → Back f text c form.Bool
  unfolding held_as bytes_as node_as text_as text_of_as as_read_as constant_of constant_on
  back_bool k e =
      let fit = k.fits e in
      let low : leb c.node.low 1 ≡ true = bool-low (constant_on c.node) fit (plain-held f c e) in
      let own : number_from (little_endian 1 c.node.low) ≡ c.node.low = number-le 1 c.node.low ∙ mod-eq_of_lt (omega (arith, leb-true c.node.low 1 low)) in
      record {
        node = λ at. ap (λ n. node_of (constant_of 0 0 n 0 0)) own;
        read = refl;
        kept = held_by f c.shape (constant_of 0 0 c.node.low 0 0) (bool-plain c.node.low low) (k.again (constant_of 0 0 c.node.low 0 0) e refl);
        same = refl;
      }

  back-number : (signed : Bool) (bits kind width : ℕ) → Known f c (form.Number signed bits kind width) → held_as f (form.Number signed bits kind width) c ≡ true
      → Back f text c (form.Number signed bits kind width)
  unfolding held_as bytes_as node_as text_as text_of_as as_read_as constant_of constant_on size_of value_of complement
  back-number signed bits kind width k e =
      let d : Constant = constant_on c.node in
      let sign : Signed c.node.sign (joined c.node.low c.node.high) =
      plain-sign d.kind d.sign d.low d.high d.width (plain-held f c e) in
      let side : Sided signed bits c.node.sign (joined c.node.low c.node.high) = sided signed bits c.node.sign (joined c.node.low c.node.high) sign (k.fits e) in
      let full : 256 ^ (bits / 8) ≡ 2 ^ bits = bytes_pow (bits / 8) ∙ ap (λ n. 2 ^ n) k.sizes.1 in
      let own : number_from (little_endian (bits / 8) (complement bits d)) ≡ complement bits d =
      number-le (bits / 8) (complement bits d) ∙ ap (λ n. complement bits d % n) full ∙ mod-eq_of_lt (complement-lt signed bits d k.sizes.0 side) in
      record {
        node = λ at. ap (λ n. node_of (literal_read signed bits kind width n)) own ∙ ap node_of (complement-back signed bits d kind width k.sizes.0 k.words.low side);
        read = refl;
        kept =
            held_by f c.shape (constant_of kind c.node.sign c.node.low c.node.high width)
            (literal-plain signed kind width c.node.sign c.node.low c.node.high k.literals sign (no_sign signed bits c.node.sign (joined c.node.low c.node.high) side))
            (k.again (constant_of kind c.node.sign c.node.low c.node.high width) e (refl, refl));
        same = refl;
      }

  -- a REAL's bits, of its two words
  bits-read : (n : ℕ) → size_of (constant_on (real_read n)) ≡ n
  unfolding size_of constant_on constant_of real_read
  bits-read n = joined-parts n

  real-held : (n : ℕ) → held_constant f c ≡ true → ((d : Constant) → held_constant f c ≡ true → d.kind ≡ 3 → fits_up_to f (suc (count f shapes)) c.shape d ≡ true)
      → held_constant f (cell c.shape (real_read n)) ≡ true
  unfolding real_read constant_of
  real-held n e again = held_by f c.shape (constant_of 3 0 (n % 2 ^ 32) (n / 2 ^ 32) 0) (real-plain (n % 2 ^ 32) (n / 2 ^ 32)) (again (constant_of 3 0 (n % 2 ^ 32) (n / 2 ^ 32) 0) e refl)

  back-real : Known f c form.Real → held_as f form.Real c ≡ true → Back f text c form.Real
  unfolding held_as bytes_as node_as text_as text_of_as as_read_as
  back-real k e =
      let n : ℕ = size_of (constant_on c.node) in
      let x = both (held_constant f c) (not (nan_bits binary64 n)) e in
      let number : nan_bits binary32 (narrowed n) ≡ false = narrowed-nan n (not-true (nan_bits binary64 n) x.1) in
      let own : number_from (little_endian 4 (narrowed n)) ≡ narrowed n = number-le 4 (narrowed n) ∙ mod-eq_of_lt (narrowed-lt n) in
      let nan : nan_bits binary64 (size_of (constant_on (real_read (widened (narrowed n))))) ≡ false =
      ap (nan_bits binary64) (bits-read (widened (narrowed n))) ∙ widened-nan (narrowed n) ∙ number in
      record {
        node = λ at. ap (λ n. real_read (widened n)) own;
        read = refl;
        kept = rw (real-held (widened (narrowed n)) x.0 k.again, nan);
        same = ap (λ m. little_endian 4 (narrowed m)) (bits-read (widened (narrowed n))) ∙ ap (little_endian 4) (narrowed-widened (narrowed n) (narrowed-lt n) number);
      }

  back-long-real : Known f c form.LongReal → held_as f form.LongReal c ≡ true → Back f text c form.LongReal
  unfolding held_as bytes_as node_as text_as text_of_as as_read_as real_read size_of constant_on constant_of
  back-long-real k e =
      let low : ℕ = c.node.low in
      let high : ℕ = c.node.high in
      let n : ℕ = joined low high in
      let parts = parts-joined low high k.words.low in
      let own : number_from (little_endian 8 n) ≡ n = number-le 8 n ∙ mod-eq_of_lt (joined-lt low high k.words.low k.words.high) in
      record {
        node = λ at. ap real_read own ∙ words parts.0 parts.1;
        read = refl;
        kept = held_by f c.shape (constant_of 3 0 low high 0) (real-plain low high) (k.again (constant_of 3 0 low high 0) e refl);
        same = refl;
      }
    where
      words : {a b x y : ℕ} → a ≡ x → b ≡ y → node_of (constant_of 3 0 a b 0) ≡ node_of (constant_of 3 0 x y 0)
      words p q = rw (p, q)

  back-string : (most width : ℕ) → Known f c (form.String most width) → narrow_as (form.String most width) text c ≡ true → held_as f (form.String most width) c ≡ true
      → Back f text c (form.String most width)
  unfolding held_as narrow_as bytes_as node_as text_as text_of_as as_read_as string_read text_on constant_on constant_of
  back-string most width k w e =
      let low : ℕ = c.node.low in
      let high : ℕ = c.node.high in
      let cs : List ℕ = characters_from text low high in
      let many : length (characters_from text low high) ≡ high = characters-many text low high in
      let fit = k.fits e in
      let short : length (characters_from text low high) < 65536 = omega (arith, many, fit.1, k.sizes) in
      let own : length_from (string_bytes most width cs) ≡ high = string-length most width cs short ∙ many in
      let wide : leb width 1 ≡ true = held-width f c most width e fit in
      let start : ℕ = pick (eqb high 0) 0 0 in
      record {
        node = λ at. ap (λ n. node_of (constant_of 8 0 (pick (eqb n 0) 0 at) n width)) own;
        read = string-read most width cs short w;
        kept =
            held_by f c.shape (constant_of 8 0 start high width) (string-plain start high width wide)
            (k.again (constant_of 8 0 start high width) e (refl, refl, fit.1, refl, λ z. zeros (eqb high 0)));
        same = ap (string_bytes most width) (listed-own cs high many);
      }
    where
      zeros : (b : Bool) → pick {A = ℕ} b 0 0 ≡ 0
      zeros true = refl
      zeros false = refl

  back-enumeration : (first count : ℕ) → Known f c (form.Enumeration first count) → held_as f (form.Enumeration first count) c ≡ true → Back f text c (form.Enumeration first count)
  unfolding held_as bytes_as node_as text_as text_of_as as_read_as member_link constant_of
  back-enumeration first many k e =
      let link : ℕ = first_named f members c.node.low first many in
      let x = both (eqb c.node.kind 9) (not (eqb link 0)) e in
      let place = found f members c.node.low first many (not-true (eqb link 0) x.1) in
      let own : number_from (little_endian 2 (link - suc first)) ≡ link - suc first =
      number-le 2 (link - suc first) ∙ mod-eq_of_lt (small link place.above place.below k.sizes) in
      record {
        node = λ at. ap (λ n. node_of (constant_of 9 0 (word f members (first + n) 0) 0 0)) own ∙ ap (λ n. node_of (constant_of 9 0 n 0 0)) place.is;
        read = refl;
        kept = x.1;
        same = refl;
      }
    where
      small : (link : ℕ) → first < link → link ≤ first + many → many ≤ 65536 → link - suc first < 256 ^ 2
      small link a b s = omega arith

nothing-held : {X : Type 0} (f : List ℕ) (c : Cell) → held_as f form.Nothing c ≡ true → X
unfolding held_as
nothing-held f c h = never h

pub back : (f : List ℕ) (text : Characters) (c : Cell) (F : Form) → Known f c F → narrow_as F text c ≡ true → held_as f F c ≡ true → Back f text c F
back f text c form.Head k n h = back_head f text c h
back f text c form.Null k n h = back-null f text c
back f text c form.Bool k n h = back_bool f text c k h
back f text c (form.Number signed bits kind width) k n h = back-number f text c signed bits kind width k h
back f text c form.Real k n h = back-real f text c k h
back f text c form.LongReal k n h = back-long-real f text c k h
back f text c (form.String most width) k n h = back-string f text c most width k n h
back f text c (form.Enumeration first count) k n h = back-enumeration f text c first count k h
back f text c form.Nothing k n h = nothing-held f c h
