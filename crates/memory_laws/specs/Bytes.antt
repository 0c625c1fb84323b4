-- Little-endian numbers, characters and two's complement as bytes, there and back. Assumes nothing.
use Rattle.std.specs.Prelude.{◌≡◌, refl, Bool, not, ◌&&◌, ◌||◌, List, [], ◌∷◌, ◌++◌, eqb, leb, ltb, length, get_or, take, drop, pos, neg_ℤ}
use Rattle.std.proofs.Math.Path.{ap}
use Rattle.std.proofs.Common.{sym, ◌∙◌, append_assoc, arith, mod-eq_of_lt, mod-lt, mul-le-mul_left, mul-suc, mul-zero, length-append, length-take, length-drop, pow_pos, take_at, drop_at, length-take-le, take-add, eqb-true, eq-eqb, ltb-true, lt-ltb, leb-true, le-leb}
use Rattle.std.proofs.Math.Bool.{true, false}
use Prim.Native.Nat.{ℕ, zero, suc, ◌+◌, ◌-◌, ◌*◌, ◌/◌, ◌%◌, ◌^◌, ◌≤◌, ◌<◌}
use Rattle.std.proofs.Math.Nat.{add-mul-mod_self_left, add-mul-div_left, div-eq_of_lt, div-add-mod, pow-succ', pow-le-pow_right, one-le-pow, mod-one, two-pow-succ}
use Rattle.std.specs.Int.Signed.{le_z}
use Rattle.std.proofs.lemmas.Bool.{eqb-false, lt-leb}
use Rattle.definition.specs.declared.records.Constant.{Constant}
use Rattle.definition.specs.Base.{pick, unused, joined}
use Rattle.definition.specs.Records.{constant_of}
use Rattle.definition.specs.Accept.{constant_plain}
use Rattle.definition.specs.Iec.{number, least, greatest, between, in_range}
use Rattle.definition.specs.Scalar.{size_of}
use Rattle.laws.specs.Cases.{never, both, either, by_kind}
use Rattle.laws.specs.Every.{Each}
use Rattle.memory_definition.specs.Numbers.{little_endian, number_from, complement, is_negative, literal, literal_read, text_bytes, text_from}
use Rattle.memory_definition.specs.Forms.{every_below, same_bytes}

-- ---- bytes
abbrev pub Bytes : List ℕ → Type 0
Bytes bs = Each (λ b. b < 256) bs

pub bytes_take : (k : ℕ) (bs : List ℕ) → Bytes bs → Bytes (take k bs)
bytes_take zero bs h = tt
bytes_take (suc k) [] h = tt
bytes_take (suc k) (b ∷ bs) h = (h.0, bytes_take k bs h.1)

pub bytes_drop : (k : ℕ) (bs : List ℕ) → Bytes bs → Bytes (drop k bs)
bytes_drop zero bs h = h
bytes_drop (suc k) [] h = tt
bytes_drop (suc k) (b ∷ bs) h = bytes_drop k bs h.1

pub bytes-append : (ls bs : List ℕ) → Bytes ls → Bytes bs → Bytes (ls ++ bs)
bytes-append [] bs g h = h
bytes-append (a ∷ ls) bs g h = (g.0, bytes-append ls bs g.1 h)

-- a lent slice's bytes, each by its index
pub bytes-each : (bs : List ℕ) → ((i : ℕ) → i < length bs → get_or bs i 0 < 256) → Bytes bs
bytes-each [] h = tt
bytes-each (b ∷ bs) h = (h 0 (omega arith), bytes-each bs (λ i l. h (suc i) (omega arith)))

-- ---- numbers
pub le-long : (k n : ℕ) → length (little_endian k n) ≡ k
unfolding little_endian
le-long zero n = refl
le-long (suc k) n = ap suc (le-long k (n / 256))

pub le_bytes : (k n : ℕ) → Bytes (little_endian k n)
unfolding little_endian
le_bytes zero n = tt
le_bytes (suc k) n = (mod-lt n (omega arith), le_bytes k (n / 256))

-- a number below a product, by its quotient and what is left of it
mod-mul : (n b : ℕ) → 0 < b → n % 256 + 256 * (n / 256 % b) ≡ n % (256 * b)
mod-mul n b p =
    let low : ℕ = n % 256 + 256 * (n / 256 % b) in
    let small : n / 256 % b < b = mod-lt (n / 256) p in
    let less : low < 256 * b = omega (arith, mod-lt n {m = 256} (omega arith), mul-le-mul_left 256 small) in
    let q : n / 256 / b * b + n / 256 % b ≡ n / 256 = omega (arith, div-add-mod (n / 256) b) in
    let whole : n ≡ low + 256 * b * (n / 256 / b) = omega (arith, div-add-mod n 256, ap (λ x. 256 * x) q) in
    sym (ap (λ x. x % (256 * b)) whole ∙ add-mul-mod_self_left low (256 * b) (n / 256 / b) ∙ mod-eq_of_lt less)

pub number-le : (k n : ℕ) → number_from (little_endian k n) ≡ n % 256 ^ k
unfolding little_endian number_from
number-le zero n = sym (mod-one n)
number-le (suc k) n =
    ap (λ x. n % 256 + 256 * x) (number-le k (n / 256))
    ∙ mod-mul n (256 ^ k) (one-le-pow k 256 (omega arith))
    ∙ ap (λ x. n % x) (sym (pow-succ' 256 k))

pub number_lt : (bs : List ℕ) → Bytes bs → number_from bs < 256 ^ length bs
unfolding number_from
number_lt [] h = omega arith
number_lt (b ∷ bs) h = omega (arith, h.0, pow-succ' 256 (length bs), mul-le-mul_left 256 (number_lt bs h.1))

pub le-number : (bs : List ℕ) → Bytes bs → little_endian (length bs) (number_from bs) ≡ bs
unfolding little_endian number_from
le-number [] h = refl
le-number (b ∷ bs) h =
    let n : ℕ = number_from bs in
    let low : (b + 256 * n) % 256 ≡ b = add-mul-mod_self_left b 256 n ∙ mod-eq_of_lt h.0 in
    let high : (b + 256 * n) / 256 ≡ n = omega (arith, add-mul-div_left b n {y = 256} (omega arith), div-eq_of_lt h.0) in
    rw (low, high) (ap (λ l. b ∷ l) (le-number bs h.1))

-- ---- comparing
pub same_bytes_lem : (ls bs : List ℕ) → same_bytes ls bs ≡ true → ls ≡ bs
unfolding same_bytes
same_bytes_lem [] [] e = refl
same_bytes_lem [] (b ∷ bs) e = never e
same_bytes_lem (a ∷ ls) [] e = never e
same_bytes_lem (a ∷ ls) (b ∷ bs) e =
    let x = both (eqb a b) (same_bytes ls bs) e in
    rw (eqb-true a b x.0, same_bytes_lem ls bs x.1)

pub bytes_same : (bs : List ℕ) → same_bytes bs bs ≡ true
unfolding same_bytes
bytes_same [] = refl
bytes_same (b ∷ bs) = rw (eq-eqb b b refl) (bytes_same bs)

-- ---- characters
pub text-long : (size : ℕ) (cs : List ℕ) → length (text_bytes size cs) ≡ size * length cs
unfolding text_bytes
text-long size [] = sym (mul-zero size)
text-long size (c ∷ cs) = length-append (little_endian size c) (text_bytes size cs) ∙ rw (le-long size c, text-long size cs) (omega arith)

pub text-read : (size : ℕ) (cs rest : List ℕ) → every_below (256 ^ size) cs ≡ true → text_from size (length cs) (text_bytes size cs ++ rest) ≡ cs
unfolding text_bytes text_from every_below
text-read size [] rest e = refl
text-read size (c ∷ cs) rest e =
    let x = both (ltb c (256 ^ size)) (every_below (256 ^ size) cs) e in
    let split : (little_endian size c ++ text_bytes size cs) ++ rest ≡ little_endian size c ++ (text_bytes size cs ++ rest) = append_assoc (little_endian size c) (text_bytes size cs) rest in
    let own : number_from (little_endian size c) ≡ c = number-le size c ∙ mod-eq_of_lt (ltb-true c (256 ^ size) x.0) in
    rw (split, take_at (little_endian size c) (text_bytes size cs ++ rest) size (le-long size c), drop_at (little_endian size c) (text_bytes size cs ++ rest) size (le-long size c), own)
    (ap (λ l. c ∷ l) (text-read size cs rest x.1))

pub text-many : (size k : ℕ) (bs : List ℕ) → length (text_from size k bs) ≡ k
unfolding text_from
text-many size zero bs = refl
text-many size (suc k) bs = ap suc (text-many size k (drop size bs))

pub text-below : (size k : ℕ) (bs : List ℕ) → Bytes bs → every_below (256 ^ size) (text_from size k bs) ≡ true
unfolding text_from every_below
text-below size zero bs h = refl
text-below size (suc k) bs h =
    let c : ℕ = number_from (take size bs) in
    let short : length (take size bs) ≤ size = omega (arith, length-take size bs) in
    let up : 256 ^ length (take size bs) ≤ 256 ^ size = pow-le-pow_right {n = 256} (omega arith) short in
    let less : c < 256 ^ size = omega (arith, up, number_lt (take size bs) (bytes_take size bs h)) in
    rw (lt-ltb c (256 ^ size) less) (text-below size k (drop size bs) (bytes_drop size bs h))

pub text-back : (size k : ℕ) (bs : List ℕ) → Bytes bs → size * k ≤ length bs → text_bytes size (text_from size k bs) ≡ take (size * k) bs
unfolding text_from text_bytes
text-back size zero bs h l = rw (mul-zero size)
text-back size (suc k) bs h l =
    let own : List ℕ = take size bs in
    let long : length own ≡ size = length-take-le size bs (omega (arith, mul-suc size k)) in
    let first : little_endian size (number_from own) ≡ own = ap (λ x. little_endian x (number_from own)) (sym long) ∙ le-number own (bytes_take size bs h) in
    let more : size * k ≤ length (drop size bs) = omega (arith, length-drop size bs, mul-suc size k) in
    let sum : size * suc k ≡ size + size * k = omega arith in
    ap (λ x. x ++ text_bytes size (text_from size k (drop size bs))) first
    ∙ ap (λ x. own ++ x) (text-back size k (drop size bs) (bytes_drop size bs h) more)
    ∙ sym (ap (λ x. take x bs) sum ∙ take-add size (size * k) bs)

-- ---- two's complement
-- a number's two words are its own
pub joined-parts : (n : ℕ) → joined (n % 2 ^ 32) (n / 2 ^ 32) ≡ n
unfolding joined
joined-parts n = omega arith

pub parts-joined : (low high : ℕ) → low < 2 ^ 32 → (joined low high % 2 ^ 32 ≡ low) × (joined low high / 2 ^ 32 ≡ high)
unfolding joined
parts-joined low high l = (omega arith, omega arith)

pub joined-lt : (low high : ℕ) → low < 2 ^ 32 → high < 2 ^ 32 → joined low high < 2 ^ 64
unfolding joined
joined-lt low high l h = omega arith

pub complement-read : (signed : Bool) (bits kind width n : ℕ) → n < 2 ^ bits → complement bits (literal_read signed bits kind width n) ≡ n
unfolding complement literal_read literal size_of constant_of
complement-read signed bits kind width n l = go (is_negative signed bits n)
  where
    go : (b : Bool)
        → pick (eqb (pick b 1 0) 1) (2 ^ bits - joined (pick b (2 ^ bits - n) n % 2 ^ 32) (pick b (2 ^ bits - n) n / 2 ^ 32)) (joined (pick b (2 ^ bits - n) n % 2 ^ 32) (pick b (2 ^ bits - n) n / 2 ^ 32)) ≡ n
    go true = rw (joined-parts (2 ^ bits - n)) (omega arith)
    go false = joined-parts n

-- a sign and a size that so many bits hold
pub data Sided (signed : Bool) (bits sign n : ℕ) : Type 0 where
  plain : sign ≡ 0 → signed ≡ true → n < 2 ^ (bits - 1) → Sided signed bits sign n
  negative : sign ≡ 1 → signed ≡ true → 0 < n → n ≤ 2 ^ (bits - 1) → Sided signed bits sign n
  natural : sign ≡ 0 → signed ≡ false → n < 2 ^ bits → Sided signed bits sign n

-- only what is not 0 is below 0
pub data Signed (sign n : ℕ) : Type 0 where
  up : sign ≡ 0 → Signed sign n
  down : sign ≡ 1 → 0 < n → Signed sign n

signed-right : (sign low high : ℕ) → eqb sign 0 || (eqb sign 1 && not (unused (low ∷ high ∷ []))) ≡ true → Signed sign (joined low high)
unfolding unused joined
signed-right sign low high e =
    either (eqb sign 0) (eqb sign 1 && not (eqb low 0 && (eqb high 0 && true))) e (λ z. up (eqb-true sign 0 z))
    (λ z. let x = both (eqb sign 1) (not (eqb low 0 && (eqb high 0 && true))) z in down (eqb-true sign 1 x.0) (go (eqb low 0) (eqb high 0) refl refl x.1))
  where
    go : (a b : Bool) → eqb low 0 ≡ a → eqb high 0 ≡ b → not (a && (b && true)) ≡ true → 0 < low + high * 2 ^ 32
    go true true p q r = never r
    go true false p q r = omega (arith, eqb-false high 0 q)
    go false b p q r = omega (arith, eqb-false low 0 p)

pub plain-sign : (kind sign low high width : ℕ) → constant_plain kind sign low high width ≡ true → Signed sign (joined low high)
unfolding constant_plain unused
plain-sign kind sign low high width =
    by_kind 9 (λ k. constant_plain k sign low high width ≡ true → Signed sign (joined low high))
    (λ e. first (high ∷ width ∷ []) (both (leb low 1) (unused (sign ∷ high ∷ width ∷ [])) e).1)
    (λ e. signed-right sign low high (both (eqb sign 0 || (eqb sign 1 && not (unused (low ∷ high ∷ [])))) (unused (width ∷ [])) e).0)
    (first (width ∷ []))
    (first (width ∷ []))
    (λ e. signed-right sign low high (both (eqb sign 0 || (eqb sign 1 && not (unused (low ∷ high ∷ [])))) (leb width 1) e).0)
    wide wide wide wide
    (λ k e. never e)
    kind
  where
    first : (ws : List ℕ) → eqb sign 0 && unused ws ≡ true → Signed sign (joined low high)
    first ws e = up (eqb-true sign 0 (both (eqb sign 0) (unused ws) e).0)

    wide : eqb sign 0 && leb width 1 ≡ true → Signed sign (joined low high)
    wide e = up (eqb-true sign 0 (both (eqb sign 0) (leb width 1) e).0)

-- ranges
range-negative : (h n : ℕ) → 0 < h → le_z (neg_ℤ (pos h)) (neg_ℤ (pos (suc n))) ≡ true → n < h
range-negative zero n p e = absurd (omega arith)
range-negative (suc h) n p e = omega (arith, leb-true n h e)

pub sided : (signed : Bool) (bits sign n : ℕ) → Signed sign n → in_range signed bits (number (eqb sign 1) n) ≡ true → Sided signed bits sign n
unfolding in_range between least greatest number
sided true bits sign n (up z) e =
    let x : le_z (neg_ℤ (pos (2 ^ (bits - 1)))) (pos n) && leb n (2 ^ (bits - 1) - 1) ≡ true = rw z at e in
    plain z refl (omega (arith, pow_pos (bits - 1), leb-true n (2 ^ (bits - 1) - 1) (both (le_z (neg_ℤ (pos (2 ^ (bits - 1)))) (pos n)) (leb n (2 ^ (bits - 1) - 1)) x).1))
sided true bits sign zero (down z l) e = absurd (omega arith)
sided true bits sign (suc n) (down z l) e =
    let x : le_z (neg_ℤ (pos (2 ^ (bits - 1)))) (neg_ℤ (pos (suc n))) && true ≡ true = rw z at e in
    negative z refl l (range-negative (2 ^ (bits - 1)) n (pow_pos (bits - 1)) (both (le_z (neg_ℤ (pos (2 ^ (bits - 1)))) (neg_ℤ (pos (suc n)))) true x).0)
sided false bits sign n (up z) e =
    let x : leb 0 n && leb n (2 ^ bits - 1) ≡ true = rw z at e in
    natural z refl (omega (arith, pow_pos bits, leb-true n (2 ^ bits - 1) (both (leb 0 n) (leb n (2 ^ bits - 1)) x).1))
sided false bits sign zero (down z l) e = absurd (omega arith)
sided false bits sign (suc n) (down z l) e = let x : false ≡ true = rw z at e in never x

module _ (signed : Bool) (bits : ℕ) (c : Constant) where
  stands_up : c.sign ≡ 0 → complement bits c ≡ size_of c
  unfolding complement
  stands_up z = ap (λ x. pick (eqb x 1) (2 ^ bits - size_of c) (size_of c)) z

  stands-down : c.sign ≡ 1 → complement bits c ≡ 2 ^ bits - size_of c
  unfolding complement
  stands-down z = ap (λ x. pick (eqb x 1) (2 ^ bits - size_of c) (size_of c)) z

  half : 0 < bits → 2 ^ bits ≡ 2 ^ (bits - 1) + 2 ^ (bits - 1)
  half l = let e : bits ≡ suc (bits - 1) = omega arith in ap (λ x. 2 ^ x) e ∙ two-pow-succ (bits - 1)

  pub complement-lt : 0 < bits → Sided signed bits c.sign (size_of c) → complement bits c < 2 ^ bits
  complement-lt some (plain z s l) = rw (stands_up z) (omega (arith, half some))
  complement-lt some (negative z s p l) = rw (stands-down z) (omega (arith, half some))
  complement-lt some (natural z s l) = rw (stands_up z) l

  module _ (kind width : ℕ) where
    read_up : (n : ℕ) → is_negative signed bits n ≡ false → literal_read signed bits kind width n ≡ literal kind width false n
    unfolding literal_read
    read_up n e = ap (λ b. literal kind width b (pick b (2 ^ bits - n) n)) e

    read_down : (n : ℕ) → is_negative signed bits n ≡ true → literal_read signed bits kind width n ≡ literal kind width true (2 ^ bits - n)
    unfolding literal_read
    read_down n e = ap (λ b. literal kind width b (pick b (2 ^ bits - n) n)) e

    literal-is : (b : Bool) → pick b 1 0 ≡ c.sign → c.low < 2 ^ 32 → literal kind width b (size_of c) ≡ constant_of kind c.sign c.low c.high width
    unfolding literal size_of
    literal-is b z w = rw (z, (parts-joined c.low c.high w).0, (parts-joined c.low c.high w).1)

    -- read again, a number has its sign and its words
    pub complement-back : 0 < bits → c.low < 2 ^ 32 → Sided signed bits c.sign (size_of c)
        → literal_read signed bits kind width (complement bits c) ≡ constant_of kind c.sign c.low c.high width
    unfolding is_negative
    complement-back some w (plain z s l) =
        rw (stands_up z) (read_up (size_of c) (rw s (lt-leb (2 ^ (bits - 1)) (size_of c) l)) ∙ literal-is false (sym z) w)
    complement-back some w (negative z s p l) =
        let n : ℕ = 2 ^ bits - size_of c in
        let upper : 2 ^ (bits - 1) ≤ n = omega (arith, half some) in
        let back : 2 ^ bits - n ≡ size_of c = omega (arith, half some) in
        rw (stands-down z)
        (read_down n (rw s (le-leb (2 ^ (bits - 1)) n upper)) ∙ ap (literal kind width true) back ∙ literal-is true (sym z) w)
    complement-back some w (natural z s l) = rw (stands_up z) (read_up (size_of c) (rw s) ∙ literal-is false (sym z) w)
