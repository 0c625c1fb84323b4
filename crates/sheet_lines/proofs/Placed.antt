-- Each line of a sheet that was found, by its place; and the ranks of the types' lines. Assumes nothing.
use mathlib.Core.Path.{◌≡◌, refl, ap, sym, ◌∙◌}
use mathlib.Core.Bool.{Bool, true, false}
use mathlib.Core.List.{List, [], ◌∷◌}
use Prim.Native.Nat.{ℕ, zero, suc, ◌+◌, ◌-◌, ◌≤◌, ◌<◌}
use native.Mathlib.Omega.{arith}
use native.Mathlib.Nat.{add-zero}
use lib.Dec.{eqb}
use lib.ListN.{length, get_or, drop, length-append, get_or-append}
use lib.Seq.{slice, slice-cons}
use borrow.Author.Tests.{eqb-true}
use Rattle.definition.specs.Base.{pick}
use Rattle.definition.specs.Layout.{count, types, variables}
use Rattle.definition.specs.Sheet.{sheet_rank, ranks_rise}
use Rattle.definition.specs.Uses.{uses, rank_at, rising}
use Rattle.laws.specs.Accepted.{Accepted}
use Rattle.laws.specs.Cases.{never}
use Rattle.laws.specs.Every.{each_two}
use Rattle.laws.specs.Ranks.{Used, Inside, Rising, true-rising, rising-true}
use Rattle.laws.specs.Used.{uses-inside}
use Rattle.records.specs.Tables.{table_of, Filled, table-length, table_at}
use Rattle.tree.specs.Part.{on_end}
use Rattle.sheet_lines.specs.declared.ends.Form.{Form}
use Rattle.sheet_lines.specs.declared.ends.Form.TheVariants.{Types, Variables, Completed}
use Rattle.sheet_lines.specs.declared.find.Lines.{Lines}
use Rattle.sheet_lines.specs.Ends.{head_words, line_end, lines_end, line_at, section_end}
use Rattle.sheet_lines.specs.Index.{most_places, place_of, rank_of}
use Rattle.sheet_lines.specs.There.{is_end}
use Rattle.sheet_lines.specs.Found.{lines, last_of, variables_of, found_of}
use Rattle.sheet_lines.specs.Read.{lines_in, sheet_at}
use Rattle.sheet_lines.proofs.Indexing.{place-near}
use Rattle.sheet_lines.proofs.Reading.{line-within, lines-front, SectionThere, section-there}
use Rattle.std.specs.Prelude.{None, Option, Some}

-- ---- the sections of a sheet that was found
pub record FoundAt (f s : List ℕ) (v c : ℕ) : Type 0 where
  pub types_there : SectionThere Types s (count f types) 0 v
  pub variables_there : SectionThere Variables s (count f variables) v c
  pub completed_there : SectionThere Completed s (count f variables) c (length s)

not_found : {X : Type 0} (x : Lines) → None ≡ Some x → X
not_found x e = let z : ◌≡◌ {A = ℕ} 0 1 = cc in absurd (omega arith)

module _ (f s : List ℕ) (l : Lines) where
  last-at : (v' c' : ℕ) (x : Option ℕ) → section_end Types s (count f types) 0 ≡ Some v' → section_end Variables s (count f variables) v' ≡ Some c' → section_end Completed s (count f variables) c' ≡ x
      → on_end x (λ e. pick (eqb e (length s)) (Some (lines v' c')) None) None ≡ Some l → FoundAt f s l.variables l.completed
  last-at v' c' (Some e) p q r i₀ = go (eqb e (length s)) refl i₀
    where
      go : (b : Bool) → eqb e (length s) ≡ b → pick b (Some (lines v' c')) None ≡ Some l → FoundAt f s l.variables l.completed
      go true t i =
          let k : lines v' c' ≡ l = cc in
          let a : v' ≡ l.variables = ap (λ (x : Lines). x.variables) k in
          let b : c' ≡ l.completed = ap (λ (x : Lines). x.completed) k in
          let n : e ≡ length s = eqb-true e (length s) t in
          record {
            types_there = section-there Types s (count f types) 0 l.variables (p ∙ ap Some a);
            variables_there = section-there Variables s (count f variables) l.variables l.completed (rw (← a, ← b) q);
            completed_there = section-there Completed s (count f variables) l.completed (length s) (rw (← b, ← n) r);
          }
      go false t i = not_found l i
  last-at v' c' None p q r i = not_found l i

  second_at : (v' : ℕ) (x : Option ℕ) → section_end Types s (count f types) 0 ≡ Some v' → section_end Variables s (count f variables) v' ≡ x
      → on_end x (λ c. last_of s (count f variables) v' c) None ≡ Some l → FoundAt f s l.variables l.completed
  unfolding last_of
  second_at v' (Some c') p q i = last-at v' c' (section_end Completed s (count f variables) c') p q refl i
  second_at v' None p q i = not_found l i

  first-at : (x : Option ℕ) → section_end Types s (count f types) 0 ≡ x → on_end x (λ v. variables_of s (count f variables) v) None ≡ Some l → FoundAt f s l.variables l.completed
  unfolding variables_of
  first-at (Some v') p i = second_at v' (section_end Variables s (count f variables) v') p refl i
  first-at None p i = not_found l i

  pub found_at : found_of f s ≡ Some l → FoundAt f s l.variables l.completed
  unfolding found_of
  found_at i = first-at (section_end Types s (count f types) 0) refl i

-- ---- lines by their places
module _ (form : Form) (s : List ℕ) (at : ℕ) where
  -- the first of lines that end, end
  front_ends : (j d : ℕ) → is_end (lines_end form s (j + d) at) ≡ true → is_end (lines_end form s j at) ≡ true
  unfolding lines_end
  front_ends j zero e = rw add-zero at e
  front_ends j (suc d) e₀ = front_ends j d (go (lines_end form s (j + d) at) (rw n at e₀))
    where
      n : j + suc d ≡ suc (j + d)
      n = omega arith

      go : (x : Option ℕ) → is_end (on_end x (line_end form s) None) ≡ true → is_end x ≡ true
      go (Some p) e = refl
      go None e = e

  module _ {k : ℕ} (h : is_end (lines_end form s k at) ≡ true) (t : ℕ) (l : t < k) where
    next-ends : is_end (lines_end form s (suc t) at) ≡ true
    next-ends = let n : suc t + (k - suc t) ≡ k = omega arith in front_ends (suc t) (k - suc t) (rw n h)

    -- line t lies from its place to that of the next
    pub line-ends : line_end form s (line_at form s at t) ≡ Some (line_at form s at (suc t))
    unfolding lines_end line_at
    line-ends = go (lines_end form s t at) next-ends
      where
        last : (y : Option ℕ) → is_end y ≡ true → y ≡ Some (on_end y (λ e. e) 0)
        last (Some e) i = refl
        last None i = never i

        go : (x : Option ℕ) → is_end (on_end x (line_end form s) None) ≡ true
            → line_end form s (on_end x (λ e. e) 0) ≡ Some (on_end (on_end x (line_end form s) None) (λ e. e) 0)
        go (Some p) i = last (line_end form s p) i
        go None i = never i

    pub line-inside : (line_at form s at t + head_words form ≤ line_at form s at (suc t)) × (line_at form s at (suc t) ≤ length s)
    line-inside = line-within form s (line_at form s at t) (line_at form s at (suc t)) line-ends

-- the first line is at the place itself, and the others are those from its end on
module _ (form : Form) (s : List ℕ) where
  first-place : (at : ℕ) → line_at form s at 0 ≡ at
  unfolding line_at lines_end
  first-place at = refl

  next_place : (at e t : ℕ) → line_end form s at ≡ Some e → line_at form s at (suc t) ≡ line_at form s e t
  unfolding line_at
  next_place at e t q = rw (lines-front form s t at, q)

  pub line-is : (k at t : ℕ) → is_end (lines_end form s k at) ≡ true → t < k → get_or (lines_in form s k at) t [] ≡ slice (line_at form s at t) (line_at form s at (suc t)) s
  unfolding lines_in
  line-is zero at t h l = absurd (omega arith)
  line-is (suc k) at t h l = go (line_end form s at) refl (rw (lines-front form s k at) at h) t l (λ e. line-is k e)
    where
      go : (x : Option ℕ) → line_end form s at ≡ x → is_end (on_end x (λ e. lines_end form s k e) None) ≡ true → (t : ℕ) → t < suc k
          → ((e t : ℕ) → is_end (lines_end form s k e) ≡ true → t < k → get_or (lines_in form s k e) t [] ≡ slice (line_at form s e t) (line_at form s e (suc t)) s)
          → get_or (on_end x (λ e. slice at e s ∷ lines_in form s k e) []) t [] ≡ slice (line_at form s at t) (line_at form s at (suc t)) s
      go (Some e) q i zero l ih = rw (next_place at e 0 q, first-place at, first-place e)
      go (Some e) q i (suc t) l ih = rw (next_place at e t q, next_place at e (suc t) q) (ih e t i (omega arith))
      go None q i t l ih = never i

ends_is : {x : Option ℕ} {e : ℕ} → x ≡ Some e → is_end x ≡ true
ends_is q = rw q

-- ---- the index
pub filled-wide : {g : ℕ → ℕ} {n : ℕ} {lent index : List ℕ} → Filled g n lent index → n ≤ length index
filled-wide {g} {n} {lent} x = rw (x.is, length-append (table_of g n) (drop n lent)) (omega (arith, table-length g n))

pub index_word : (word : ℕ → ℕ) {n : ℕ} {lent index : List ℕ} → Filled word n lent index → (t : ℕ) → t < n → get_or index t 0 ≡ word t
index_word word {n} {lent} g t l =
    ap (λ (w : List ℕ). get_or w t 0) g.is
    ∙ get_or-append (table_of word n) (drop n lent) 0 t (omega (arith, table-length word n))
    ∙ table_at word n t 0 l

-- ---- the lines of a sheet that was found
module _ {f s : List ℕ} {v c : ℕ} (x : FoundAt f s v c) where
  pub types-end : is_end (lines_end Types s (count f types) 1) ≡ true
  types-end = ends_is x.types_there.lines

  pub variables-end : is_end (lines_end Variables s (count f variables) (v + 1)) ≡ true
  variables-end = ends_is x.variables_there.lines

  pub completed-end : is_end (lines_end Completed s (count f variables) (c + 1)) ≡ true
  completed-end = ends_is x.completed_there.lines

  pub type-line-is : (t : ℕ) → t < count f types → get_or (sheet_at f s v c).type_lines t [] ≡ slice (line_at Types s 1 t) (line_at Types s 1 (suc t)) s
  unfolding sheet_at
  type-line-is t l = line-is Types s (count f types) 1 t types-end l

  pub variable-line-is : (t : ℕ) → t < count f variables → get_or (sheet_at f s v c).variable_lines t [] ≡ slice (line_at Variables s (v + 1) t) (line_at Variables s (v + 1) (suc t)) s
  unfolding sheet_at
  variable-line-is t l = line-is Variables s (count f variables) (v + 1) t variables-end l

  pub completed-line-is : (t : ℕ) → t < count f variables → get_or (sheet_at f s v c).completed_lines t [] ≡ slice (line_at Completed s (c + 1) t) (line_at Completed s (c + 1) (suc t)) s
  unfolding sheet_at
  completed-line-is t l = line-is Completed s (count f variables) (c + 1) t completed-end l

  -- ---- ranks
  pub sheet-rank : (t : ℕ) → t < count f types → sheet_rank (sheet_at f s v c) t ≡ get_or s (line_at Types s 1 t) 0
  unfolding sheet_rank head_words
  sheet-rank t l =
      let p : ℕ = line_at Types s 1 t in
      let e : ℕ = line_at Types s 1 (suc t) in
      let r = line-inside Types s 1 types-end t l in
      ap (λ (w : List ℕ). get_or w 0 0) (type-line-is t l ∙ slice-cons p e s 0 (omega (arith, r.0)) r.1)

  pub place_inside : (t : ℕ) → t < count f types → line_at Types s 1 t + 2 ≤ length s
  unfolding head_words
  place_inside t l = omega (arith, line-inside Types s 1 types-end t l)

  -- ---- places
  -- a word for each place, where the sheet is not longer than a word can say
  pub index-place : {lent index : List ℕ} → Filled (place_of s) (count f types) lent index → length s ≤ most_places → (t : ℕ) → t < count f types
      → get_or index t 0 ≡ line_at Types s 1 t + 2
  index-place g h t l = index_word (place_of s) g t l ∙ sym (place-near (line_at Types s 1 t) (omega (arith, place_inside t l)))

-- ---- refusal 12
-- ranks that agree on the types of a file rise alike
module _ {n : ℕ} {used : Used} (i : Inside n used) where
  rises-so : (r q : ℕ → ℕ) → ((t : ℕ) → t < n → r t ≡ q t) → Rising n used r → Rising n used q
  rises-so r q same x = record { rises = λ t l. each_two (λ d a b. omega (arith, same d a, same t l)) (used t) (i.inside t l) (x.rises t l) }

  rises-same : (r q : ℕ → ℕ) → ((t : ℕ) → t < n → r t ≡ q t) → rising n used r ≡ rising n used q
  rises-same r q same = go (rising n used r) (rising n used q) refl refl
    where
      go : (a b : Bool) → rising n used r ≡ a → rising n used q ≡ b → a ≡ b
      go true true x y = refl
      go true false x y = sym (rising-true n used q (rises-so r q same (true-rising n used r x))) ∙ y
      go false true x y = sym x ∙ rising-true n used r (rises-so q r (λ t l. sym (same t l)) (true-rising n used q y))
      go false false x y = refl

inside : {f : List ℕ} → Accepted f → Inside (count f types) (uses f)
inside {f} a = record { inside = λ t l. uses-inside f a t l }

-- the ranks of a sheet that was read are those of its lines
pub rise-by-lines : {f s : List ℕ} → Accepted f → {v c : ℕ} → FoundAt f s v c → rising (count f types) (uses f) (rank_of s) ≡ ranks_rise f (sheet_at f s v c)
unfolding ranks_rise
rise-by-lines {f} {s} a {v} {c} x = rises-same (inside a) (rank_of s) (sheet_rank (sheet_at f s v c)) (λ t l. sym (sheet-rank x t l))

-- so are those in an index of ranks
pub rise-by-index : {f : List ℕ} → Accepted f → (s : List ℕ) {lent index : List ℕ} → Filled (rank_of s) (count f types) lent index
    → rising (count f types) (uses f) (rank_at index) ≡ rising (count f types) (uses f) (rank_of s)
unfolding rank_at
rise-by-index {f} a s {index = index} g = rises-same (inside a) (rank_at index) (rank_of s) (λ t l. index_word (rank_of s) g t l)
