-- A law for each return of values.rt, and what its calls require. Assumes nothing.
use mathlib.Core.Path.{◌≡◌, refl, ap, ◌∙◌}
use mathlib.Core.List.{List, [], ◌∷◌}
use Prim.Native.Nat.{ℕ, zero, suc, ◌+◌, ◌-◌, ◌*◌, ◌≤◌, ◌<◌}
use native.Mathlib.Omega.{arith}
use lib.ListN.{length, get_or, take, drop, length-drop}
use lib.Seq.{length-take-le, get_or-take, get_or-drop}
use borrow.Author.Rules.{rules}
use borrow.Author.Tests.{eqb-true}
use types.Run.{OneOf, miss}
use denote.Enum.Declared.{tag_of}
use Rattle.definition.specs.contracts.records.Shape.{the_type}
use Rattle.definition.specs.declared.records.Shape.{Shape}
use Rattle.definition.specs.declared.records.Shape.TheVariants as shape
use Rattle.definition.specs.declared.records.Constant.{Constant}
use Rattle.definition.specs.Layout.{word, count, count_at, behind, record_words, words_of_records, settings, members, constants}
use Rattle.definition.specs.Records.{constant_at}
use Rattle.definition.specs.Accept.{ends_right}
use Rattle.definition.specs.Ask.{Result, none, Outcome}
use Rattle.definition.specs.Scalar.{converted, as_tree, constant_value, built_in, enumerated_value}
use Rattle.laws.specs.Bits.{Bits}
use Rattle.laws.specs.Accepted.{Accepted}
use Rattle.scalar.specs.Convert.{Bounds, Counts, converted_by, converted-is}
use Rattle.scalar.specs.Default.{implicit_by, implicit-is}
use Rattle.scalar.specs.Members.{Run, enumerated_by, enumerated-is}
use Rattle.places.specs.Inside.{ShapeIn, counts-in}
use Rattle.places.specs.Values.{DefaultName}
use Rattle.places.proofs.Others.{NoMembers, memberless, no-members}

-- ---- `range_of`: the bounds of a subrange are two constants of the file
pub subrange-bounds : (f : List ℕ) {s : Shape} {low high : Constant} {base least greatest : ℕ}
    → s ≡ shape.Subrange base least greatest → low ≡ constant_at f least → high ≡ constant_at f greatest → Bounds f s low high
subrange-bounds f e p q = record { of_subrange = λ b l g h. ((cc), (cc)) }

-- every shape but the subrange, by its tag
abbrev unbounded : List ℕ
unbounded = 0 ∷ 1 ∷ 2 ∷ 3 ∷ 4 ∷ 5 ∷ 6 ∷ 7 ∷ 8 ∷ 9 ∷ 10 ∷ 11 ∷ 12 ∷ 14 ∷ 15 ∷ 16 ∷ 17 ∷ []

pub no-bounds : (f : List ℕ) (s : Shape) (c : Constant) → OneOf unbounded (tag_of the_type s) → Bounds f s c c
no-bounds f s c h = record { of_subrange = λ b l g e. absurd (miss unbounded 13 tt (rw e at h)) }

-- ---- `converted`, `constant_value`
pub converted-in : (f : List ℕ) (s : Shape) (c : Constant) {low high : Constant} {setting : ℕ} {r : Result Constant}
    → Bounds f s low high → setting ≡ word f settings 0 0 → r ≡ converted_by s c low high setting → r ≡ converted f s c
converted-in f s c {low} {high} b e k = k ∙ (rw e (converted-is f s c low high b))

pub constant-counts : {f : List ℕ} → Accepted f → {s : Shape} → ShapeIn f s → (n : ℕ) → n < count f constants → {c : Constant} → c ≡ constant_at f n → Counts s c
constant-counts {f} a {s} i n h e = rw e (counts-in f a s n i h)

pub constant-bits : {f : List ℕ} {s : Shape} → ShapeIn f s → Bits s
constant-bits i = i.bits

pub constant-is : (f : List ℕ) (s : Shape) (n : ℕ) {c : Constant} → c ≡ constant_at f n → {r : Result Constant} → r ≡ converted f s c → as_tree r ≡ constant_value f s (constant_at f n)
unfolding constant_value
constant-is f s n e h = rw (← e) (ap as_tree h)

-- ---- `member_at`, `member_names`
starts-rise : (f : List ℕ) (s n : ℕ) → count_at f s ≤ count_at f (n + s)
unfolding count_at behind
starts-rise f s zero = let e : 0 + s ≡ s = omega arith in rw e (omega arith)
starts-rise f s (suc n) = let e : suc n + s ≡ suc (n + s) = omega arith in rw e (omega (arith, starts-rise f s n))

members-next : (f : List ℕ) → count_at f 3 ≡ count_at f members + 1 + count f members * 1
unfolding count_at behind record_words words_of_records count
members-next f = refl

member-word : (f : List ℕ) (n at : ℕ) → at ≡ count_at f members + 1 + n → get_or f at 0 ≡ word f members n 0
unfolding word record_words words_of_records
member-word f n at e = ap (λ k. get_or f k 0) (let z : at ≡ count_at f members + 1 + n * 1 + 0 = omega arith in z)

module _ {f : List ℕ} (a : Accepted f) (first many : ℕ) (h : first + many ≤ count f members) {from : ℕ} (e : from ≡ count_at f members + 1 + first) where
  pub members-end : {words : List ℕ} → words ≡ f → from + many ≤ length words
  unfolding ends_right
  members-end w =
      rw w
      (let l : count_at f 14 ≡ length f = eqb-true (count_at f 14) (length f) a.ends in
      let r : count_at f 3 ≤ count_at f 14 = starts-rise f 3 11 in
      omega (arith, members-next f))

  pub members_run : {words : List ℕ} → words ≡ f → {to : ℕ} → to ≡ from + many → {names : List ℕ} → names ≡ take (to - from) (drop from words) → Run f first many names
  members_run w {to} t {names} n =
      let q : to - from ≡ many = omega arith in
      let g : names ≡ take many (drop from f) = rw (q, w) at n in
      let l : many ≤ length (drop from f) = simp length-drop (omega (arith, members-end refl)) in
      rw g (record { long = length-take-le many (drop from f) l; names_are = λ k m. get_or-take many (drop from f) k 0 m ∙ get_or-drop from f k 0 ∙ member-word f (first + k) (from + k) (omega arith) })

-- ---- `enumerated_value`
pub members-inside : {f : List ℕ} {s : Shape} → ShapeIn f s → {first many default underlying : ℕ} → s ≡ shape.Enumeration first many default underlying → first + many ≤ count f members
members-inside i e = (rw e at i.points).0

pub enumerated-by : (f : List ℕ) (value qualifier : ℕ) {s : Shape} {first many default underlying : ℕ} → s ≡ shape.Enumeration first many default underlying
    → {names : List ℕ} → Run f first many names → {r : Outcome} → r ≡ enumerated_by names value qualifier → r ≡ enumerated_value f s value qualifier
enumerated-by f value qualifier {s} {first} {many} {default} {underlying} e {names} m h = rw e (h ∙ enumerated-is f first many default underlying names value qualifier m)

pub no-enumeration : (f : List ℕ) (s : Shape) (value qualifier : ℕ) → NoMembers s → as_tree none ≡ enumerated_value f s value qualifier
unfolding enumerated_value as_tree
no-enumeration f s value qualifier h = no-members none s _ h

-- ---- `default_name`, `built_in`
pub default-member : (f : List ℕ) {s : Shape} {first many default underlying r : ℕ} → s ≡ shape.Enumeration first many default underlying
    → r ≡ word f members (first + default) 0 → DefaultName f s r
default-member f e h = record { of_enumeration = λ a b c d q. cc }

pub no_default : (f : List ℕ) (s : Shape) (r : ℕ) → NoMembers s → DefaultName f s r
no_default f s r h = record { of_enumeration = λ a b c d e. absurd (miss memberless 10 tt (rw e at h)) }

pub implicit-in : (f : List ℕ) (s : Shape) {low high : Constant} → Bounds f s low high → {member : ℕ} → DefaultName f s member
    → {setting : ℕ} → setting ≡ word f settings 0 0 → {r : Outcome} → r ≡ implicit_by s low member setting → r ≡ built_in f s
implicit-in f s {low} b {member} d w h =
    (h ∙ ap (implicit_by s low member) w) ∙ implicit-is f s low member
    (record { of_subrange = λ base l g e. (b.of_subrange base l g e).0; of_enumeration = λ first many default underlying e l. d.of_enumeration first many default underlying e })

pub ruleset laws =
    (rules, subrange-bounds, no-bounds, converted-in, constant-counts, constant-bits, constant-is, members-end, members_run, members-inside, enumerated-by, no-enumeration, default-member, no_default, implicit-in)
