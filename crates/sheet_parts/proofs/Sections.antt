-- A section, line by line, and the section of types. Assumes nothing.
use mathlib.Core.Path.{◌≡◌, refl, ap, sym, subst, ◌∙◌}
use mathlib.Core.List.{List, [], ◌∷◌, ◌++◌, append_assoc, append-nil}
use Prim.Native.Nat.{ℕ, zero, suc, ◌+◌, ◌-◌, ◌*◌, ◌≤◌, ◌<◌}
use native.Mathlib.Omega.{arith}
use native.Mathlib.Numerals.{add-one}
use native.Mathlib.Nat.{add-zero, zero-add, suc-add}
use lib.ListN.{length, get_or, length-append}
use borrow.Author.Rules.{rules}
use Rattle.definition.specs.Layout.{count, types}
use Rattle.definition.specs.Sheet.{lines_from}
use Rattle.definition.specs.Uses.{rank_at}
use Rattle.lines.specs.Look.{remembered_of}
use Rattle.build.specs.Built.{index_in}
use Rattle.sheet_parts.specs.declared.line.Line.{Line}
use Rattle.laws.specs.Puts.{Puts, puts_none, puts-long, puts_then}
use Rattle.sheet_parts.specs.Line.{line_in, LineFits, LineLies, remembered_line}
use Rattle.sheet_parts.specs.Resolved.{Resolved, ranked_line}
use Rattle.sheet_parts.specs.Section.{section_of, LineLong, SectionLong, TypesLong, SectionRoom, Writing}
use Rattle.sheet_parts.proofs.Lining.{line-few, line-long, line-fits, line-puts}
use Rattle.sheet_parts.proofs.Parts.{type-lies}

-- ---- lines by their last
module _ (line : ℕ → List ℕ) where
  lines_next : (i k : ℕ) → lines_from line i (suc k) ≡ lines_from line i k ++ line (i + k)
  unfolding lines_from
  lines_next i zero = append-nil (line i) ∙ ap line (sym (add-zero i))
  lines_next i (suc k) =
      ap (λ (l : List ℕ). line i ++ l) (lines_next (suc i) k)
      ∙ sym (append_assoc (line i) (lines_from line (suc i) k) (line (suc i + k)))
      ∙ ap (λ (n : ℕ). line i ++ lines_from line (suc i) k ++ line n) (omega arith)

  pub lines-last : (k : ℕ) → lines_from line 0 (k + 1) ≡ lines_from line 0 k ++ line k
  lines-last k = ap (lines_from line 0) (add-one k) ∙ lines_next 0 k ∙ ap (λ (n : ℕ). lines_from line 0 k ++ line n) (zero-add k)

  pub lines_none : lines_from line 0 0 ≡ []
  unfolding lines_from
  lines_none = refl

  lines_long : (k : ℕ) → length (lines_from line 0 (k + 1)) ≡ length (lines_from line 0 k) + length (line k)
  lines_long k = ap length (lines-last k) ∙ length-append (lines_from line 0 k) (line k)

  lines_more : (d k : ℕ) → length (lines_from line 0 k) ≤ length (lines_from line 0 (d + k))
  lines_more zero k = rw zero-add (omega arith)
  lines_more (suc d) k = rw suc-add (let e : suc (d + k) ≡ (d + k) + 1 = omega arith in rw e (omega (arith, lines_long (d + k), lines_more d k)))

  -- a line behind the first k is among more of them
  pub lines-within : (k many : ℕ) → k < many → length (lines_from line 0 k) + length (line k) ≤ length (lines_from line 0 many)
  lines-within k many h =
      let d : (many - (k + 1)) + (k + 1) ≡ many = omega arith in
      let m : length (lines_from line 0 (k + 1)) ≤ length (lines_from line 0 many) = rw d at (lines_more (many - (k + 1)) (k + 1)) in
      omega (arith, lines_long k)

-- ---- a section that is counted
module _ (line : ℕ → List ℕ) where
  pub section-starts : SectionLong line 0 1
  unfolding section_of
  section-starts = record { is = omega (arith, ap length (lines_none line)); most = omega arith }

  pub section-next : {i n w : ℕ} → SectionLong line i n → LineLong line i w → SectionLong line (i + 1) (n + w)
  unfolding section_of
  section-next {i} x l = record { is = omega (arith, x.is, l.is, lines_long line i); most = omega (arith, x.most, l.most) }

-- ---- a section that is written
module _ (line : ℕ → List ℕ) {many : ℕ} where
  pub section-begins : {at out : ℕ} → SectionRoom line many at out → at < out
  unfolding section_of
  section-begins x = omega (arith, x.room)

  pub writing-starts : {old mid : List ℕ} {at b w : ℕ} → SectionRoom line many at (length old) → Puts (w ∷ []) old at b mid → Writing line many mid b 0 b mid
  unfolding section_of
  writing-starts {old} {mid} {at} {b} x q =
      record {
        puts = rw (lines_none line) (puts_none mid b (omega (arith, q.fits, puts-long q)));
        room = omega (arith, x.room, q.ends, puts-long q);
      }

  module _ {old : List ℕ} {at i end : ℕ} {out : List ℕ} (x : Writing line many old at i end out) where
    writing-room : i < many → end + length (line i) ≤ length out
    writing-room h = omega (arith, lines-within line i many h, x.room, x.puts.ends, puts-long x.puts)

    writing-next : {e : ℕ} {new : List ℕ} → Puts (line i) out end e new → Writing line many old at (i + 1) e new
    writing-next q = record { puts = rw (lines-last line i) (puts_then x.puts q); room = x.room }

    pub writing-done : {m : ℕ} → m ≡ many → i ≤ m → m ≤ i → {first : List ℕ} {a : ℕ} → Puts (m ∷ []) first a at old → Puts (section_of line many) first a end out
    unfolding section_of
    writing-done {m} e g h {first} {a} q =
        let k : i ≡ many = omega arith in
        let p : Puts (m ∷ lines_from line 0 i) first a end out = puts_then q x.puts in
        subst (λ (n : ℕ). Puts (n ∷ lines_from line 0 many) first a end out) e (subst (λ (n : ℕ). Puts (m ∷ lines_from line 0 n) first a end out) k p)

-- ---- types
pub types-none : (f : List ℕ) → TypesLong f 0 1
types-none f = record { is = λ rank. (section-starts (ranked_line f rank)).is; most = omega arith }

pub types-all : {f : List ℕ} {t n m : ℕ} → TypesLong f t n → m ≡ count f types → t ≤ m → m ≤ t → TypesLong f (count f types) n
types-all {f} {t} {n} x e g h = let k : t ≡ count f types = omega arith in subst (λ (j : ℕ). TypesLong f j n) k x

module _ {f tables store : List ℕ} (k : Resolved f tables store) where
  pub tables-there : 1024 ≤ length tables
  tables-there = k.wide

  module _ {many t : ℕ} (c : many ≡ count f types) (h : t < many) where
    pub type-few : {line : Line} → line ≡ remembered_line 0 (remembered_of (index_in tables) store t) → line.nodes ≤ 2048
    type-few e = line-few (type-lies k (λ t. 0) t (omega arith) e)

    pub type-counted : {n : ℕ} → TypesLong f t n → {line : Line} → line ≡ remembered_line 0 (remembered_of (index_in tables) store t) → {w : ℕ} → w ≡ 3 + line.nodes * 6 → TypesLong f (t + 1) (n + w)
    type-counted {n} x e {w} i =
        let y = type-lies k (λ t. 0) t (omega arith) e in
        let l : (rank : ℕ → ℕ) → LineLong (ranked_line f rank) t w = λ rank. record { is = omega (arith, line-long y); most = omega (arith, line-few y) } in
        let s : (rank : ℕ → ℕ) → SectionLong (ranked_line f rank) t n = λ rank. record { is = x.is rank; most = x.most } in
        record { is = λ rank. (section-next (ranked_line f rank) (s rank) (l rank)).is; most = omega (arith, x.most, line-few y) }

    module _ (ranks : List ℕ) {old : List ℕ} {at end : ℕ} {out : List ℕ} (x : Writing (ranked_line f (rank_at ranks)) (count f types) old at t end out) (r : ℕ) {line : Line}
        (e : line ≡ remembered_line r (remembered_of (index_in tables) store t)) where
      -- whatever the rank
      pub type-fits : LineFits line (length store) (end + 1) (length out)
      type-fits = line-fits (type-lies k (λ t. r) t (omega arith) e) end (length out) (writing-room (ranked_line f (rank_at ranks)) x (omega arith))

      pub type-next : r ≡ get_or ranks t 0 → {b : ℕ} {new : List ℕ} → Puts (line_in line store) out end b new → Writing (ranked_line f (rank_at ranks)) (count f types) old at (t + 1) b new
      unfolding rank_at
      type-next i p =
          let y : LineLies (ranked_line f (rank_at ranks) t) line store = type-lies k (rank_at ranks) t (omega arith) (e ∙ ap (λ (w : ℕ). remembered_line w (remembered_of (index_in tables) store t)) i) in
          writing-next (ranked_line f (rank_at ranks)) x (line-puts y p)

pub ruleset counting = (rules, tables-there, types-none, type-few, type-counted, types-all)

pub ruleset writing = (rules, tables-there, section-begins, writing-starts, type-fits, writing-done)
