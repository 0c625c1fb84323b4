-- What a constant has that fits a shape, by the form that the shape has in memory, and which other constants fit where it does. Assumes nothing.
use Rattle.std.specs.Prelude.{◌≡◌, Bool, ◌&&◌, ◌||◌, List, ℕ, zero, suc, ◌+◌, ◌-◌, ◌*◌, ◌≤◌, min, eqb, leb, ℤ}
use Rattle.std.proofs.Math.Path.{refl}
use Rattle.std.proofs.Common.{ap, sym, ◌∙◌, arith, eqb-true, eq-eqb, leb-true}
use Rattle.std.proofs.Math.Bool.{true, false}
use Rattle.std.proofs.Math.Nat.{min-eq_left, min-le_right}
use Rattle.definition.specs.declared.records.Shape.{Shape}
use Rattle.definition.specs.declared.records.Shape.TheVariants as shape
use Rattle.definition.specs.declared.records.Constant.{Constant}
use Rattle.definition.specs.Base.{pick}
use Rattle.definition.specs.Layout.{count, shapes}
use Rattle.definition.specs.Records.{constant_of, constant_at, shape_at}
use Rattle.definition.specs.Accept.{constant_plain}
use Rattle.definition.specs.Ask.{Result, ok, none, large}
use Rattle.definition.specs.Iec.{in_range, between}
use Rattle.definition.specs.Scalar.{size_of, value_of, is_integer, kept, as_bool, as_real, as_count, max_length, on_result, cut_string, as_string, converted, long}
use Rattle.definition.specs.Scalar as scalar
use Rattle.laws.specs.Cases.{never, both, on-pick}
use Rattle.memory_definition.specs.declared.form.Form.{Form}
use Rattle.memory_definition.specs.declared.form.Form.TheVariants as form
use Rattle.memory_definition.specs.Cells.{Cell, cell}
use Rattle.memory_definition.specs.Forms.{as_integer, as_text, stored_by, stored_up_to, stored, is_head, form_at, form_of, constant_on, same_constant, is_same, unchanged, on_base, fits_up_to, held_constant, node_of}
use Rattle.memory_laws.specs.Uncut.{uncut-word}

-- ---- a plain constant is what a node of its words holds: a string's last word is its width, with no characters cut
abbrev pub Plain : Constant → Type 0
Plain d = constant_plain d.kind d.sign d.low d.high d.width ≡ true

string-width : (d : Constant) → d.kind ≡ 8 → Plain d → leb d.width 1 ≡ true
unfolding constant_plain
string-width d k p =
    let x : eqb d.sign 0 && leb d.width 1 ≡ true = rw k at p in
    (both (eqb d.sign 0) (leb d.width 1) x).1

plain-on : (d : Constant) → Plain d → constant_on (node_of d) ≡ d
unfolding constant_on constant_of
plain-on d p = rw (uncut-word d.kind d.width (λ k. leb-true d.width 1 (string-width d k p)))

-- ---- a constant is held if it is plain and fits
pub plain-held : (f : List ℕ) (c : Cell) → held_constant f c ≡ true → Plain (constant_on c.node)
unfolding held_constant
plain-held f c e =
    let d : Constant = constant_on c.node in
    (both (constant_plain d.kind d.sign d.low d.high d.width) (fits_up_to f (suc (count f shapes)) c.shape d) e).0

pub fits-held : (f : List ℕ) (c : Cell) → held_constant f c ≡ true → fits_up_to f (suc (count f shapes)) c.shape (constant_on c.node) ≡ true
unfolding held_constant
fits-held f c e =
    let d : Constant = constant_on c.node in
    (both (constant_plain d.kind d.sign d.low d.high d.width) (fits_up_to f (suc (count f shapes)) c.shape d) e).1

pub held_by : (f : List ℕ) (s : Shape) (d : Constant) → Plain d → fits_up_to f (suc (count f shapes)) s d ≡ true → held_constant f (cell s (node_of d)) ≡ true
unfolding held_constant
held_by f s d p q = rw (plain-on d p, p, q)

-- ---- what conversion returns unchanged
same_self : (c : Constant) → same_constant c c ≡ true
unfolding same_constant
same_self c = rw (eq-eqb c.kind c.kind refl, eq-eqb c.sign c.sign refl, eq-eqb c.low c.low refl, eq-eqb c.high c.high refl, eq-eqb c.width c.width refl)

-- a constant is its five words
pub constant-is : {k s l h w : ℕ} (d : Constant) → k ≡ d.kind → s ≡ d.sign → l ≡ d.low → h ≡ d.high → w ≡ d.width → constant_of k s l h w ≡ d
unfolding constant_of
constant-is d k s l h w = rw (k, s, l, h, w)

same-constant : (c d : Constant) → same_constant c d ≡ true → c ≡ d
unfolding same_constant constant_of
same-constant c d e₅ =
    let k : Bool = eqb c.kind d.kind in
    let s : Bool = eqb c.sign d.sign in
    let l : Bool = eqb c.low d.low in
    let h : Bool = eqb c.high d.high in
    let e₄ = both (k && s && l && h) (eqb c.width d.width) e₅ in
    let e₃ = both (k && s && l) h e₄.0 in
    let e₂ = both (k && s) l e₃.0 in
    let e₁ = both k s e₂.0 in
    constant-is d (eqb-true c.kind d.kind e₁.0) (eqb-true c.sign d.sign e₁.1) (eqb-true c.low d.low e₂.1)
    (eqb-true c.high d.high e₃.1) (eqb-true c.width d.width e₄.1)

pub returned : (f : List ℕ) (s : Shape) (c : Constant) → unchanged f s c ≡ true → converted f s c ≡ ok c
unfolding unchanged
returned f s c = go (converted f s c)
  where
    go : (r : Result Constant) → is_same c r ≡ true → r ≡ ok c
    go (ok d) e = ap ok (sym (same-constant c d e))
    go none e = never e
    go large e = never e

pub returns-it : (f : List ℕ) (s : Shape) (c : Constant) → converted f s c ≡ ok c → unchanged f s c ≡ true
unfolding unchanged
returns-it f s c e = rw e (same_self c)

-- what is kept has met its test
kept_test : (t : Bool) (c d : Constant) → kept t c ≡ ok d → t ≡ true
unfolding kept
kept_test true c d e = refl
kept_test false c d e = let z : ◌≡◌ {A = ℕ} 0 1 = cc in absurd (omega arith)

-- ---- what a constant has that fits
abbrev pub Fitting : Form → Constant → Type 0
Fitting form.Head c = Unit {0}
Fitting form.Null c = Unit {0}
Fitting form.Bool c = c.kind ≡ 0
Fitting (form.Number signed bits kind width) c = in_range signed bits (value_of c) ≡ true
Fitting form.Real c = c.kind ≡ 3
Fitting form.LongReal c = c.kind ≡ 3
Fitting (form.String most width) c = (c.kind ≡ 8) × (c.high ≤ most) × (c.width ≡ width)
Fitting (form.Enumeration first count) c = Unit {0}
Fitting form.Nothing c = Unit {0}

fitting-bool : (c : Constant) → as_bool c ≡ ok c → c.kind ≡ 0
unfolding as_bool constant_of
fitting-bool c = go (is_integer c && eqb c.sign 0 && leb (size_of c) 1)
  where
    go : (b : Bool) → pick b (ok (constant_of 0 0 c.low 0 0)) (kept (eqb c.kind 0) c) ≡ ok c → c.kind ≡ 0
    go true e = cc
    go false e = eqb-true c.kind 0 (kept_test (eqb c.kind 0) c c e)

fitting-integer : (holds : ℤ → Bool) (c : Constant) → scalar.as_integer holds c ≡ ok c → holds (value_of c) ≡ true
unfolding scalar.as_integer
fitting-integer holds c e =
    (both (is_integer c || eqb c.kind 2) (holds (value_of c)) (kept_test ((is_integer c || eqb c.kind 2) && holds (value_of c)) c c e)).1

fitting-count : (kind bits : ℕ) (signed : Bool) (c : Constant) → as_count kind signed bits c ≡ ok c → in_range signed bits (value_of c) ≡ true
unfolding as_count
fitting-count kind bits signed c e =
    (both (eqb c.kind kind) (in_range signed bits (value_of c)) (kept_test (eqb c.kind kind && in_range signed bits (value_of c)) c c e)).1

fitting-real : (bits : ℕ) (c : Constant) → as_real bits c ≡ ok c → c.kind ≡ 3
unfolding as_real constant_of
fitting-real bits c = go (is_integer c) _ _
  where
    go : (b : Bool) (low high : ℕ) → pick b (ok (constant_of 3 0 low high 0)) (kept (eqb c.kind 3) c) ≡ ok c → c.kind ≡ 3
    go true low high e = cc
    go false low high e = eqb-true c.kind 3 (kept_test (eqb c.kind 3) c c e)

-- a string's run of characters cut to so many, at a place of a width (`cut_string`)
abbrev pub cut_to : ℕ → Constant → ℕ → Constant
cut_to width c most = constant_of 8 0 (pick (eqb (min c.high most) 0) 0 c.low) (min c.high most) (width + 2 * (c.high - min c.high most))

fitting-string : (f : List ℕ) (length width : ℕ) (c : Constant) → as_string f length width c ≡ ok c → Fitting (as_text (max_length f length) width) c
unfolding as_string cut_string constant_of
fitting-string f length width c = go (eqb c.kind 8) (max_length f length)
  where
    go : (b : Bool) (r : Result ℕ)
        → pick b (on_result r (λ most. ok (cut_to width c most))) none ≡ ok c
        → Fitting (as_text r width) c
    go true (ok most) e =
        -- no character is cut, so that the last word is the width
        let m : min c.high most ≡ c.high = cc in
        let w : width + 2 * (c.high - min c.high most) ≡ c.width = cc in
        (cc, omega (arith, m, min-le_right c.high most), omega (arith, m, w))
    go true none e = tt
    go true large e = tt
    go false (ok most) e = let z : ◌≡◌ {A = ℕ} 0 1 = cc in absurd (omega arith)
    go false none e = tt
    go false large e = tt

fitting-whole : (F : Form) (c : Constant) → Fitting F c → Fitting (as_integer F) c
fitting-whole form.Head c h = tt
fitting-whole form.Null c h = tt
fitting-whole form.Bool c h = tt
fitting-whole (form.Number signed bits kind width) c h = on-pick (λ F. Fitting F c) (eqb kind 1) (form.Number signed bits kind width) form.Nothing (λ e. h) (λ e. tt)
fitting-whole form.Real c h = tt
fitting-whole form.LongReal c h = tt
fitting-whole (form.String most width) c h = tt
fitting-whole (form.Enumeration first count) c h = tt
fitting-whole form.Nothing c h = tt

fitting-by : (f : List ℕ) (below : ℕ → Form) (holds : ℕ → Bool) (s : Shape) (c : Constant)
    → ((base : ℕ) → holds base ≡ true → Fitting (below base) c) → converted f s c ≡ ok c → on_base s holds ≡ true → Fitting (stored_by f below s) c
unfolding stored_by converted
fitting-by f below holds shape.Bool c ih e b = fitting-bool c e
fitting-by f below holds (shape.Int bits) c ih e b = fitting-integer (in_range true bits) c e
fitting-by f below holds (shape.UInt bits) c ih e b = fitting-integer (in_range false bits) c e
fitting-by f below holds (shape.Real bits) c ih e b = on-pick (λ F. Fitting F c) (eqb bits 64) form.LongReal form.Real (λ z. fitting-real bits c e) (λ z. fitting-real bits c e)
fitting-by f below holds (shape.Bytes bits) c ih e b = fitting-integer (in_range false bits) c e
fitting-by f below holds (shape.Time bits) c ih e b = fitting-count 4 bits true c e
fitting-by f below holds (shape.Date bits) c ih e b = fitting-count 6 bits false c e
fitting-by f below holds (shape.TimeOfDay bits) c ih e b = fitting-count 5 bits false c e
fitting-by f below holds (shape.DateAndTime bits) c ih e b = fitting-count 7 bits false c e
fitting-by f below holds (shape.String length width) c ih e b = fitting-string f length width c e
fitting-by f below holds (shape.Enumeration first count default underlying) c ih e b = tt
fitting-by f below holds (shape.Structure first count) c ih e b = tt
fitting-by f below holds (shape.Array element first count) c ih e b = tt
fitting-by f below holds (shape.Subrange base low high) c ih e b = fitting-whole (below base) c (ih base b)
fitting-by f below holds (shape.FunctionBlock name) c ih e b = tt
fitting-by f below holds (shape.Interface name) c ih e b = tt
fitting-by f below holds (shape.Reference target) c ih e b = tt
fitting-by f below holds shape.Unknown c ih e b = tt

fitting-up-to : (f : List ℕ) (k : ℕ) (s : Shape) (c : Constant) → fits_up_to f k s c ≡ true → Fitting (stored_up_to f k s) c
unfolding fits_up_to stored_up_to
fitting-up-to f zero s c e = never e
fitting-up-to f (suc k) s c e =
    let x = both (unchanged f s c) (on_base s (λ base. fits_up_to f k (shape_at f base) c)) e in
    fitting-by f (λ base. stored_up_to f k (shape_at f base)) (λ base. fits_up_to f k (shape_at f base) c) s c (λ base. fitting-up-to f k (shape_at f base) c) (returned f s c x.0) x.1

pub fitting : (f : List ℕ) (c : Cell) → held_constant f c ≡ true → Fitting (form_of f c) (constant_on c.node)
unfolding form_of form_at stored
fitting f c e =
    let h = c.node in
    let k : ℕ = suc (count f shapes) in
    on-pick (λ F. Fitting F (constant_on h)) (is_head h.kind) form.Head (pick (eqb h.kind 10) form.Null (stored_up_to f k c.shape)) (λ z. tt)
    (λ y. on-pick (λ F. Fitting F (constant_on h)) (eqb h.kind 10) form.Null (stored_up_to f k c.shape) (λ z. tt) (λ z. fitting-up-to f k c.shape (constant_on h) (fits-held f c e)))

-- a string's form has a width that a file's shape may have
pub held-width : (f : List ℕ) (c : Cell) (most width : ℕ) → held_constant f c ≡ true → Fitting (form.String most width) (constant_on c.node) → leb width 1 ≡ true
held-width f c most width e fit = rw fit.2 at (string-width (constant_on c.node) fit.0 (plain-held f c e))

-- ---- where one fits, so does another of the form's own kind: a number of the same value, any REAL, a string that is not longer
abbrev pub Again : Form → Constant → Constant → Type 0
Again form.Head c d = ⊥
Again form.Null c d = ⊥
Again form.Bool c d = d.kind ≡ 0
Again (form.Number signed bits kind width) c d = (d.kind ≡ kind) × (value_of d ≡ value_of c)
Again form.Real c d = d.kind ≡ 3
Again form.LongReal c d = d.kind ≡ 3
Again (form.String most width) c d = (d.kind ≡ 8) × (d.sign ≡ 0) × (d.high ≤ most) × (d.width ≡ width) × (d.high ≡ 0 → d.low ≡ 0)
Again (form.Enumeration first count) c d = ⊥
Again form.Nothing c d = ⊥

again-bool : (d : Constant) → d.kind ≡ 0 → as_bool d ≡ ok d
unfolding as_bool is_integer kept
again-bool d k =
    let i : eqb d.kind 1 ≡ false = rw k in
    let z : eqb d.kind 0 ≡ true = rw k in
    ap (λ b. pick (b && eqb d.sign 0 && leb (size_of d) 1) (ok (constant_of 0 0 d.low 0 0)) (pick (eqb d.kind 0) (ok d) none)) i
    ∙ ap (λ b. pick b (ok d) none) z

again-integer : (holds : ℤ → Bool) (c d : Constant) → d.kind ≡ 1 → value_of d ≡ value_of c → scalar.as_integer holds c ≡ ok c → scalar.as_integer holds d ≡ ok d
unfolding scalar.as_integer is_integer kept
again-integer holds c d k v e =
    let own : eqb d.kind 1 ≡ true = eq-eqb d.kind 1 k in
    let in-range : holds (value_of d) ≡ true = ap holds v ∙ fitting-integer holds c e in
    ap (λ b. pick ((b || eqb d.kind 2) && holds (value_of d)) (ok d) none) own ∙ ap (λ b. pick b (ok d) none) in-range

again-count : (kind bits : ℕ) (signed : Bool) (c d : Constant) → d.kind ≡ kind → value_of d ≡ value_of c → as_count kind signed bits c ≡ ok c → as_count kind signed bits d ≡ ok d
unfolding as_count kept
again-count kind bits signed c d k v e =
    let in-range : in_range signed bits (value_of d) ≡ true = ap (in_range signed bits) v ∙ fitting-count kind bits signed c e in
    ap (λ b. pick (b && in_range signed bits (value_of d)) (ok d) none) (eq-eqb d.kind kind k) ∙ ap (λ b. pick b (ok d) none) in-range

again-real : (bits : ℕ) (d : Constant) → d.kind ≡ 3 → as_real bits d ≡ ok d
unfolding as_real is_integer kept
again-real bits d k = go (eqb d.kind 1) (eqb d.kind 3) _ (rw k) (rw k)
  where
    go : (i z : Bool) (r : Result Constant) → i ≡ false → z ≡ true → pick i r (pick z (ok d) none) ≡ ok d
    go i z r p q = rw (p, q)

again-string : (f : List ℕ) (length width : ℕ) (c d : Constant) → Again (as_text (max_length f length) width) c d → as_string f length width d ≡ ok d
unfolding as_string cut_string
again-string f length width c d = go (max_length f length)
  where
    begins : (b : Bool) → eqb d.high 0 ≡ b → (d.high ≡ 0 → d.low ≡ 0) → pick b 0 d.low ≡ d.low
    begins true e h = sym (h (eqb-true d.high 0 e))
    begins false e h = refl

    go : (r : Result ℕ) → Again (as_text r width) c d
        → pick (eqb d.kind 8) (on_result r (λ most. ok (cut_to width d most))) none ≡ ok d
    go (ok most) h =
        let long : min d.high most ≡ d.high = min-eq_left h.2 in
        let last : width + 2 * (d.high - min d.high most) ≡ d.width = omega (arith, long, h.3) in
        ap (λ b. pick b (ok (cut_to width d most)) none) (eq-eqb d.kind 8 h.0)
        ∙ ap ok (constant-is d (sym h.0) (sym h.1) (ap (λ n. pick (eqb n 0) 0 d.low) long ∙ begins (eqb d.high 0) refl h.4) long last)
    go none h = absurd h
    go large h = absurd h

-- a subrange's base: its number is an integer
again-whole : (F : Form) (c d : Constant) → Again (as_integer F) c d → Again F c d × (d.kind ≡ 1) × (value_of d ≡ value_of c)
again-whole form.Head c d h = absurd h
again-whole form.Null c d h = absurd h
again-whole form.Bool c d h = absurd h
again-whole (form.Number signed bits kind width) c d h = go (eqb kind 1) refl h
  where
    go : (b : Bool) → eqb kind 1 ≡ b → Again (pick b (form.Number signed bits kind width) form.Nothing) c d
        → ((d.kind ≡ kind) × (value_of d ≡ value_of c)) × (d.kind ≡ 1) × (value_of d ≡ value_of c)
    go true e h = (h, h.0 ∙ eqb-true kind 1 e, h.1)
    go false e h = absurd h
again-whole form.Real c d h = absurd h
again-whole form.LongReal c d h = absurd h
again-whole (form.String most width) c d h = absurd h
again-whole (form.Enumeration first count) c d h = absurd h
again-whole form.Nothing c d h = absurd h

-- a REAL's form is one of two
again-either : (b : Bool) (c d : Constant) → Again (pick b form.LongReal form.Real) c d → d.kind ≡ 3
again-either true c d h = h
again-either false c d h = h

module _ (f : List ℕ) (below : ℕ → Form) (c d : Constant) where
  again_by : (s : Shape) → converted f s c ≡ ok c → Again (stored_by f below s) c d → converted f s d ≡ ok d
  unfolding stored_by converted
  again_by shape.Bool e h = again-bool d h
  again_by (shape.Int bits) e h = again-integer (in_range true bits) c d h.0 h.1 e
  again_by (shape.UInt bits) e h = again-integer (in_range false bits) c d h.0 h.1 e
  again_by (shape.Real bits) e h = again-real bits d (again-either (eqb bits 64) c d h)
  again_by (shape.Bytes bits) e h = again-integer (in_range false bits) c d h.0 h.1 e
  again_by (shape.Time bits) e h = again-count 4 bits true c d h.0 h.1 e
  again_by (shape.Date bits) e h = again-count 6 bits false c d h.0 h.1 e
  again_by (shape.TimeOfDay bits) e h = again-count 5 bits false c d h.0 h.1 e
  again_by (shape.DateAndTime bits) e h = again-count 7 bits false c d h.0 h.1 e
  again_by (shape.String length width) e h = again-string f length width c d h
  again_by (shape.Enumeration first count default underlying) e h = absurd h
  again_by (shape.Structure first count) e h = absurd h
  again_by (shape.Array element first count) e h = absurd h
  again_by (shape.Subrange base low high) e h =
      let x = again-whole (below base) c d h in
      again-integer (between (value_of (constant_at f low)) (value_of (constant_at f high))) c d x.1 x.2 e
  again_by (shape.FunctionBlock name) e h = absurd h
  again_by (shape.Interface name) e h = absurd h
  again_by (shape.Reference target) e h = absurd h
  again_by shape.Unknown e h = absurd h

  again-base : (s : Shape) (holds too : ℕ → Bool) → ((base : ℕ) → holds base ≡ true → Again (below base) c d → too base ≡ true)
      → on_base s holds ≡ true → Again (stored_by f below s) c d → on_base s too ≡ true
  unfolding stored_by
  again-base shape.Bool holds too ih b h = refl
  again-base (shape.Int bits) holds too ih b h = refl
  again-base (shape.UInt bits) holds too ih b h = refl
  again-base (shape.Real bits) holds too ih b h = refl
  again-base (shape.Bytes bits) holds too ih b h = refl
  again-base (shape.Time bits) holds too ih b h = refl
  again-base (shape.Date bits) holds too ih b h = refl
  again-base (shape.TimeOfDay bits) holds too ih b h = refl
  again-base (shape.DateAndTime bits) holds too ih b h = refl
  again-base (shape.String length width) holds too ih b h = refl
  again-base (shape.Enumeration first count default underlying) holds too ih b h = refl
  again-base (shape.Structure first count) holds too ih b h = refl
  again-base (shape.Array element first count) holds too ih b h = refl
  again-base (shape.Subrange base low high) holds too ih b h = ih base b (again-whole (below base) c d h).0
  again-base (shape.FunctionBlock name) holds too ih b h = refl
  again-base (shape.Interface name) holds too ih b h = refl
  again-base (shape.Reference target) holds too ih b h = refl
  again-base shape.Unknown holds too ih b h = refl

again-up-to : (f : List ℕ) (k : ℕ) (s : Shape) (c d : Constant) → fits_up_to f k s c ≡ true → Again (stored_up_to f k s) c d → fits_up_to f k s d ≡ true
unfolding fits_up_to stored_up_to
again-up-to f zero s c d e h = never e
again-up-to f (suc k) s c d e h =
    let below : ℕ → Form = λ base. stored_up_to f k (shape_at f base) in
    let x = both (unchanged f s c) (on_base s (λ base. fits_up_to f k (shape_at f base) c)) e in
    let own : unchanged f s d ≡ true = returns-it f s d (again_by f below c d s (returned f s c x.0) h) in
    rw own
    (again-base f below c d s (λ base. fits_up_to f k (shape_at f base) c) (λ base. fits_up_to f k (shape_at f base) d)
    (λ base. again-up-to f k (shape_at f base) c d) x.1 h)

pub again : (f : List ℕ) (s : Shape) (c d : Constant)
    → fits_up_to f (suc (count f shapes)) s c ≡ true → Again (stored f s) c d → fits_up_to f (suc (count f shapes)) s d ≡ true
unfolding stored
again f s c d e h = again-up-to f (suc (count f shapes)) s c d e h

-- the same at a node's form
pub again-form : (f : List ℕ) (c : Cell) (d : Constant) → held_constant f c ≡ true → Again (form_of f c) (constant_on c.node) d → fits_up_to f (suc (count f shapes)) c.shape d ≡ true
unfolding form_of form_at
again-form f c d e = go (is_head c.node.kind) (eqb c.node.kind 10)
  where
    go : (head null : Bool) → Again (pick head form.Head (pick null form.Null (stored f c.shape))) (constant_on c.node) d → fits_up_to f (suc (count f shapes)) c.shape d ≡ true
    go true null a = absurd a
    go false true a = absurd a
    go false false a = again f c.shape (constant_on c.node) d (fits-held f c e) a

-- ---- the kinds and widths of numbers: integers, durations, and dates and times of day, which have no sign
pub data Literal (signed : Bool) (kind width : ℕ) : Type 0 where
  integer : kind ≡ 1 → width ≡ 0 → Literal signed kind width
  duration : kind ≡ 4 → width ≤ 1 → Literal signed kind width
  time_of_day : kind ≡ 5 → width ≤ 1 → signed ≡ false → Literal signed kind width
  date : kind ≡ 6 → width ≤ 1 → signed ≡ false → Literal signed kind width
  date_and_time : kind ≡ 7 → width ≤ 1 → signed ≡ false → Literal signed kind width

-- none is a head or a null
pub literal-leaf : (signed : Bool) (kind width : ℕ) → Literal signed kind width → (is_head kind ≡ false) × (eqb kind 10 ≡ false)
unfolding is_head
literal-leaf signed kind width (integer k w) = (rw k, rw k)
literal-leaf signed kind width (duration k w) = (rw k, rw k)
literal-leaf signed kind width (time_of_day k w z) = (rw k, rw k)
literal-leaf signed kind width (date k w z) = (rw k, rw k)
literal-leaf signed kind width (date_and_time k w z) = (rw k, rw k)

pub literal-width : (signed : Bool) (kind width : ℕ) → Literal signed kind width → width ≤ 1
literal-width signed kind width (integer k w) = omega arith
literal-width signed kind width (duration k w) = w
literal-width signed kind width (time_of_day k w z) = w
literal-width signed kind width (date k w z) = w
literal-width signed kind width (date_and_time k w z) = w

abbrev pub Literals : Form → Type 0
Literals form.Head = Unit {0}
Literals form.Null = Unit {0}
Literals form.Bool = Unit {0}
Literals (form.Number signed bits kind width) = Literal signed kind width
Literals form.Real = Unit {0}
Literals form.LongReal = Unit {0}
Literals (form.String most width) = Unit {0}
Literals (form.Enumeration first count) = Unit {0}
Literals form.Nothing = Unit {0}

long-le : (bits : ℕ) → long bits ≤ 1
unfolding long
long-le bits = on-pick (λ n. n ≤ 1) (eqb bits 64) 1 0 (λ e. omega arith) (λ e. omega arith)

literal-whole : (F : Form) → Literals F → Literals (as_integer F)
literal-whole form.Head h = tt
literal-whole form.Null h = tt
literal-whole form.Bool h = tt
literal-whole (form.Number signed bits kind width) h = on-pick Literals (eqb kind 1) (form.Number signed bits kind width) form.Nothing (λ e. h) (λ e. tt)
literal-whole form.Real h = tt
literal-whole form.LongReal h = tt
literal-whole (form.String most width) h = tt
literal-whole (form.Enumeration first count) h = tt
literal-whole form.Nothing h = tt

literal-text : (r : Result ℕ) (width : ℕ) → Literals (as_text r width)
literal-text (ok most) width = tt
literal-text none width = tt
literal-text large width = tt

literal-by : (f : List ℕ) (below : ℕ → Form) (s : Shape) → ((base : ℕ) → Literals (below base)) → Literals (stored_by f below s)
unfolding stored_by
literal-by f below shape.Bool ih = tt
literal-by f below (shape.Int bits) ih = integer refl refl
literal-by f below (shape.UInt bits) ih = integer refl refl
literal-by f below (shape.Real bits) ih = on-pick Literals (eqb bits 64) form.LongReal form.Real (λ e. tt) (λ e. tt)
literal-by f below (shape.Bytes bits) ih = integer refl refl
literal-by f below (shape.Time bits) ih = duration refl (long-le bits)
literal-by f below (shape.Date bits) ih = date refl (long-le bits) refl
literal-by f below (shape.TimeOfDay bits) ih = time_of_day refl (long-le bits) refl
literal-by f below (shape.DateAndTime bits) ih = date_and_time refl (long-le bits) refl
literal-by f below (shape.String length width) ih = literal-text (max_length f length) width
literal-by f below (shape.Enumeration first count default underlying) ih = tt
literal-by f below (shape.Structure first count) ih = tt
literal-by f below (shape.Array element first count) ih = tt
literal-by f below (shape.Subrange base low high) ih = literal-whole (below base) (ih base)
literal-by f below (shape.FunctionBlock name) ih = tt
literal-by f below (shape.Interface name) ih = tt
literal-by f below (shape.Reference target) ih = tt
literal-by f below shape.Unknown ih = tt

literal-up-to : (f : List ℕ) (k : ℕ) (s : Shape) → Literals (stored_up_to f k s)
unfolding stored_up_to
literal-up-to f zero s = tt
literal-up-to f (suc k) s = literal-by f (λ base. stored_up_to f k (shape_at f base)) s (λ base. literal-up-to f k (shape_at f base))

pub literal-stored : (f : List ℕ) (s : Shape) → Literals (stored f s)
unfolding stored
literal-stored f s = literal-up-to f (suc (count f shapes)) s

pub literal-form : (f : List ℕ) (c : Cell) → Literals (form_of f c)
unfolding form_of form_at
literal-form f c =
    on-pick Literals (is_head c.node.kind) form.Head (pick (eqb c.node.kind 10) form.Null (stored f c.shape)) (λ e. tt)
    (λ e. on-pick Literals (eqb c.node.kind 10) form.Null (stored f c.shape) (λ z. tt) (λ z. literal-stored f c.shape))
