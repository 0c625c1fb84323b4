-- What was found is what the definition reads. Assumes nothing.
use mathlib.Core.Path.{◌≡◌, refl, ap, ap₂, sym, ◌∙◌}
use mathlib.Core.Bool.{Bool, true, false, ◌&&◌}
use mathlib.Core.List.{List, [], ◌∷◌, ◌++◌}
use Prim.Native.Nat.{ℕ, zero, suc, ◌+◌, ◌-◌, ◌*◌, ◌≤◌, ◌<◌}
use native.Mathlib.Omega.{arith}
use native.Mathlib.Nat.{add-zero}
use lib.Dec.{eqb, leb, ltb}
use lib.ListN.{length, get_or, take, drop, length-drop, drop_of_length-le}
use lib.Seq.{slice, drop-cons, drop-drop, length-take-le}
use borrow.Author.Tests.{leb-true, leb-false, ltb-true, ltb-false, eqb-true, eqb-false, eq-eqb, ne_eqb}
use Rattle.definition.specs.Base.{pick, choose}
use Rattle.definition.specs.Layout.{count, types, variables}
use Rattle.definition.specs.Sheet.{cut, broken, tree_cut, empty_cut, type_cut, variable_cut, completed_cut, section, unreadable, on_cut, on_section, cut_lines, read_section, read, no, read_sheet}
use Rattle.laws.specs.Cases.{both}
use Rattle.tree.specs.Extent.{tree_of}
use Rattle.tree.specs.Part.{on_end}
use Rattle.tree.specs.Words.{Stand}
use Rattle.tree.proofs.Stands.{take-drop, rest-stand, stand-append}
use Rattle.sheet_lines.specs.declared.ends.Form.{Form}
use Rattle.sheet_lines.specs.declared.ends.Form.TheVariants.{Types, Variables, Completed}
use Rattle.sheet_lines.specs.declared.find.Lines.{Lines}
use Rattle.sheet_lines.specs.Ends.{head_words, state_at, empty_head, nodes_end, head_end, line_end, lines_end, section_end}
use Rattle.sheet_lines.specs.Found.{lines, last_of, variables_of, found_of}
use Rattle.sheet_lines.specs.Read.{lines_in, sheet_at, read_of, cut_of, cut_at, section_at}
use Rattle.sheet_lines.proofs.Ending.{head-shape, tree-within}
use Rattle.sheet_lines.proofs.Shapes.{there-shape}
use Rattle.std.specs.Prelude.{None, Option, Some}

-- ---- the nodes behind a head that stands at a place
module _ (s : List ℕ) (at p : ℕ) (front : List ℕ) (x : Stand s at front p) (state many : ℕ) (empty : Bool) where
  abbrev nodes : List ℕ
  nodes = take (6 * many) (drop p s)

  tree-stands : tree_of s p many ≡ true → Stand s at (front ++ nodes) (p + many * 6)
  tree-stands q =
      let w = tree-within s p many q in
      let n : 6 * many ≡ many * 6 = omega arith in
      let l : length nodes ≡ 6 * many = length-take-le (6 * many) (drop p s) (simp length-drop (omega arith)) in
      stand-append x (record { long = omega arith; fits = w; is = sym (ap (λ (k : ℕ). take k (drop p s)) n ∙ take-drop p (many * 6) s) })

  tree-part : (b : Bool) → tree_of s p many ≡ b
      → choose b (λ u. cut (front ++ nodes) (drop (6 * many) (drop p s))) (λ u. broken) ≡ cut_at s at (pick b (Some (p + many * 6)) None)
  tree-part true q =
      let n : p + 6 * many ≡ p + many * 6 = omega arith in
      ap₂ cut (sym (tree-stands q).is) (drop-drop (6 * many) p s ∙ ap (λ (k : ℕ). drop k s) n)
  tree-part false q = refl

  none-part : (b : Bool) → pick b (cut front (drop p s)) broken ≡ cut_at s at (pick b (Some p) None)
  none-part true = ap (λ (w : List ℕ). cut w (drop p s)) (sym x.is)
  none-part false = refl

  nodes-cut : choose (eqb state 0) (λ u. tree_cut front many (drop p s)) (λ u. empty_cut front empty (drop p s)) ≡ cut_at s at (nodes_end s p state many empty)
  unfolding tree_cut empty_cut nodes_end
  nodes-cut = go (eqb state 0)
    where
      go : (b : Bool) → choose b (λ u. tree_cut front many (drop p s)) (λ u. empty_cut front empty (drop p s))
          ≡ cut_at s at (pick b (pick (tree_of s p many) (Some (p + many * 6)) None) (pick empty (Some p) None))
      go true = tree-part (tree_of s p many) refl
      go false = none-part empty

-- ---- heads
module _ (s : List ℕ) (at : ℕ) where
  first_two : at + 2 ≤ length s → drop at s ≡ get_or s at 0 ∷ get_or s (at + 1) 0 ∷ drop (at + 2) s
  first_two h =
      let a : drop at s ≡ get_or s at 0 ∷ drop (suc at) s = drop-cons s at 0 (omega arith) in
      let b : drop (suc at) s ≡ get_or s (suc at) 0 ∷ drop (suc (suc at)) s = drop-cons s (suc at) 0 (omega arith) in
      let m : suc at ≡ at + 1 = omega arith in
      let n : suc (suc at) ≡ at + 2 = omega arith in
      a ∙ ap (λ (l : List ℕ). get_or s at 0 ∷ l) (b ∙ ap₂ (λ (i j : ℕ). get_or s i 0 ∷ drop j s) m n)

  first_three : at + 3 ≤ length s → drop at s ≡ get_or s at 0 ∷ get_or s (at + 1) 0 ∷ get_or s (at + 2) 0 ∷ drop (at + 3) s
  first_three h =
      let a : drop (at + 2) s ≡ get_or s (at + 2) 0 ∷ drop (suc (at + 2)) s = drop-cons s (at + 2) 0 (omega arith) in
      let n : suc (at + 2) ≡ at + 3 = omega arith in
      first_two (omega arith) ∙ ap (λ (l : List ℕ). get_or s at 0 ∷ get_or s (at + 1) 0 ∷ l) (a ∙ ap (λ (j : ℕ). get_or s (at + 2) 0 ∷ drop j s) n)

  pub two-stand : at + 2 ≤ length s → Stand s at (get_or s at 0 ∷ get_or s (at + 1) 0 ∷ []) (at + 2)
  two-stand h = rest-stand s at (get_or s at 0 ∷ get_or s (at + 1) 0 ∷ []) (drop (at + 2) s) (omega arith) (first_two h)

  three-stand : at + 3 ≤ length s → Stand s at (get_or s at 0 ∷ get_or s (at + 1) 0 ∷ get_or s (at + 2) 0 ∷ []) (at + 3)
  three-stand h = rest-stand s at (get_or s at 0 ∷ get_or s (at + 1) 0 ∷ get_or s (at + 2) 0 ∷ []) (drop (at + 3) s) (omega arith) (first_three h)

type-short : (l : List ℕ) → length l < 3 → type_cut l ≡ broken
unfolding type_cut
type-short [] h = refl
type-short (a ∷ []) h = refl
type-short (a ∷ b ∷ []) h = refl
type-short (a ∷ b ∷ c ∷ l) h = absurd (omega arith)

variable-short : (l : List ℕ) → length l < 2 → variable_cut l ≡ broken
unfolding variable_cut
variable-short [] h = refl
variable-short (a ∷ []) h = refl
variable-short (a ∷ b ∷ l) h = absurd (omega arith)

completed-short : (l : List ℕ) → length l < 3 → completed_cut l ≡ broken
unfolding completed_cut
completed-short [] h = refl
completed-short (a ∷ []) h = refl
completed-short (a ∷ b ∷ []) h = refl
completed-short (a ∷ b ∷ c ∷ l) h = absurd (omega arith)

-- ---- a line
module _ (s : List ℕ) (at : ℕ) where
  type-so : at + 3 ≤ length s → type_cut (drop at s) ≡ cut_at s at (head_end Types s at)
  unfolding head_end head_words state_at empty_head type_cut
  type-so h =
      let n : at + 3 - 1 ≡ at + 2 = omega arith in
      rw n (ap type_cut (first_three s at h)
      ∙ nodes-cut s at (at + 3) (get_or s at 0 ∷ get_or s (at + 1) 0 ∷ get_or s (at + 2) 0 ∷ []) (three-stand s at h) (get_or s (at + 1) 0) (get_or s (at + 2) 0)
      (leb (get_or s (at + 1) 0) 2 && eqb (get_or s (at + 2) 0) 0))

  variable-so : at + 2 ≤ length s → variable_cut (drop at s) ≡ cut_at s at (head_end Variables s at)
  unfolding head_end head_words state_at empty_head variable_cut
  variable-so h =
      let n : at + 2 - 1 ≡ at + 1 = omega arith in
      rw (n, add-zero at) (ap variable_cut (first_two s at h)
      ∙ nodes-cut s at (at + 2) (get_or s at 0 ∷ get_or s (at + 1) 0 ∷ []) (two-stand s at h) (get_or s at 0) (get_or s (at + 1) 0)
      (leb (get_or s at 0) 2 && eqb (get_or s (at + 1) 0) 0))

  completed-so : at + 3 ≤ length s → completed_cut (drop at s) ≡ cut_at s at (head_end Completed s at)
  unfolding head_end head_words state_at empty_head completed_cut
  completed-so h =
      let n : at + 3 - 1 ≡ at + 2 = omega arith in
      rw (n, add-zero at) (ap completed_cut (first_three s at h)
      ∙ nodes-cut s at (at + 3) (get_or s at 0 ∷ get_or s (at + 1) 0 ∷ get_or s (at + 2) 0 ∷ []) (three-stand s at h) (get_or s at 0) (get_or s (at + 2) 0)
      (eqb (get_or s at 0) 1 && eqb (get_or s (at + 1) 0) 0 && eqb (get_or s (at + 2) 0) 0))

head-cut : (form : Form) (s : List ℕ) (at : ℕ) → at + head_words form ≤ length s → cut_of form (drop at s) ≡ cut_at s at (head_end form s at)
unfolding head_words
head-cut Types s at h = type-so s at h
head-cut Variables s at h = variable-so s at h
head-cut Completed s at h = completed-so s at h

short_cut : (form : Form) (l : List ℕ) → length l < head_words form → cut_of form l ≡ broken
unfolding head_words
short_cut Types l h = type-short l h
short_cut Variables l h = variable-short l h
short_cut Completed l h = completed-short l h

pub line-cut : (form : Form) (s : List ℕ) (at : ℕ) → cut_of form (drop at s) ≡ cut_at s at (line_end form s at)
unfolding line_end
line-cut form s at = go (leb (at + head_words form) (length s)) refl
  where
    go : (b : Bool) → leb (at + head_words form) (length s) ≡ b → cut_of form (drop at s) ≡ cut_at s at (pick b (head_end form s at) None)
    go true q = head-cut form s at (leb-true (at + head_words form) (length s) q)
    go false q = short_cut form (drop at s) (simp length-drop (omega (arith, leb-false (at + head_words form) (length s) q, (head-shape form).two)))

-- ---- lines: from the front
module _ (form : Form) (s : List ℕ) where
  pub lines-front : (k at : ℕ) → lines_end form s (suc k) at ≡ on_end (line_end form s at) (λ e. lines_end form s k e) None
  unfolding lines_end
  lines-front zero at = go (line_end form s at)
    where
      go : (x : Option ℕ) → x ≡ on_end x (λ e. Some e) None
      go (Some e) = refl
      go None = refl
  lines-front (suc k) at = ap (λ (x : Option ℕ). on_end x (line_end form s) None) (lines-front k at) ∙ go (line_end form s at)
    where
      go : (x : Option ℕ) → on_end (on_end x (λ e. lines_end form s k e) None) (line_end form s) None ≡ on_end x (λ e. on_end (lines_end form s k e) (line_end form s) None) None
      go (Some e) = refl
      go None = refl

  lines_cut : (k at : ℕ) → cut_lines (cut_of form) k (drop at s) ≡ section_at s (lines_in form s k at) (lines_end form s k at)
  unfolding cut_lines lines_in lines_end
  lines_cut zero at = refl
  lines_cut (suc k) at = rw (line-cut form s at, lines-front k at) (go (line_end form s at) (lines_cut k))
    where
      behind : (w : List ℕ) (ws : List (List ℕ)) (x : Option ℕ) → on_section (section_at s ws x) unreadable (λ vs n. section (w ∷ vs) n) ≡ section_at s (w ∷ ws) x
      behind w ws (Some e) = refl
      behind w ws None = refl

      go : (x : Option ℕ) → ((e : ℕ) → cut_lines (cut_of form) k (drop e s) ≡ section_at s (lines_in form s k e) (lines_end form s k e))
          → on_cut (cut_at s at x) unreadable (λ w m. on_section (cut_lines (cut_of form) k m) unreadable (λ ws n. section (w ∷ ws) n))
          ≡ section_at s (on_end x (λ e. slice at e s ∷ lines_in form s k e) []) (on_end x (λ e. lines_end form s k e) None)
      go (Some e) ih = rw (ih e) (behind (slice at e s) (lines_in form s k e) (lines_end form s k e))
      go None ih = refl

  -- ---- a section
  some : (n at : ℕ) → at < length s → read_section (cut_of form) n (drop at s) ≡ choose (eqb (get_or s at 0) n) (λ u. cut_lines (cut_of form) n (drop (at + 1) s)) (λ u. unreadable)
  unfolding read_section
  some n at h = let m : suc at ≡ at + 1 = omega arith in ap (read_section (cut_of form) n) (drop-cons s at 0 h ∙ ap (λ (j : ℕ). get_or s at 0 ∷ drop j s) m)

  none : (n at : ℕ) → length s ≤ at → read_section (cut_of form) n (drop at s) ≡ unreadable
  unfolding read_section
  none n at h = ap (read_section (cut_of form) n) (drop_of_length-le s {i = at} h)

  section-cut : (n at : ℕ) → read_section (cut_of form) n (drop at s) ≡ section_at s (lines_in form s n (at + 1)) (section_end form s n at)
  unfolding section_end
  section-cut n at = go (ltb at (length s)) refl
    where
      counted : (c : Bool) → choose c (λ u. cut_lines (cut_of form) n (drop (at + 1) s)) (λ u. unreadable) ≡ section_at s (lines_in form s n (at + 1)) (pick c (lines_end form s n (at + 1)) None)
      counted true = lines_cut n (at + 1)
      counted false = refl

      go : (b : Bool) → ltb at (length s) ≡ b
          → read_section (cut_of form) n (drop at s) ≡ section_at s (lines_in form s n (at + 1)) (pick (b && eqb (get_or s at 0) n) (lines_end form s n (at + 1)) None)
      go true q = some n at (ltb-true at (length s) q) ∙ counted (eqb (get_or s at 0) n)
      go false q = none n at (ltb-false at (length s) q)

-- ---- lines lie within the words
ends-only : {a b : ℕ} → Some a ≡ Some b → a ≡ b
ends-only e = cc

pub line-within : (form : Form) (s : List ℕ) (at e : ℕ) → line_end form s at ≡ Some e → (at + head_words form ≤ e) × (e ≤ length s)
line-within form s at e i =
    let x = there-shape {form = form} {s = s} {at = at} (record { there = rw i }) in
    let n : at + head_words form + get_or s (at + head_words form - 1) 0 * 6 ≡ e = ends-only (sym x.ends ∙ i) in
    (omega arith, omega (arith, x.within))

pub lines-within : (form : Form) (s : List ℕ) (k at e : ℕ) → at ≤ length s → lines_end form s k at ≡ Some e → (at ≤ e) × (e ≤ length s)
unfolding lines_end
lines-within form s zero at e h i = let n : at ≡ e = cc in (omega arith, omega arith)
lines-within form s (suc k) at e h i₀ = go (lines_end form s k at) refl (λ p. lines-within form s k at p h) i₀
  where
    go : (x : Option ℕ) → lines_end form s k at ≡ x → ((p : ℕ) → lines_end form s k at ≡ Some p → (at ≤ p) × (p ≤ length s)) → on_end x (line_end form s) None ≡ Some e
        → (at ≤ e) × (e ≤ length s)
    go (Some p) q ih i = let r = line-within form s p e i in (omega (arith, (ih p q).0, r.0), r.1)
    go None q ih i = let z : ◌≡◌ {A = ℕ} 0 1 = cc in absurd (omega arith)

-- ---- a section that was found
pub record SectionThere (form : Form) (s : List ℕ) (n at e : ℕ) : Type 0 where
  pub inside : at < length s
  pub counted : get_or s at 0 ≡ n
  pub lines : lines_end form s n (at + 1) ≡ Some e
  pub within : e ≤ length s

pub section-there : (form : Form) (s : List ℕ) (n at e : ℕ) → section_end form s n at ≡ Some e → SectionThere form s n at e
unfolding section_end
section-there form s n at e i₀ = go (ltb at (length s) && eqb (get_or s at 0) n) refl i₀
  where
    go : (b : Bool) → ltb at (length s) && eqb (get_or s at 0) n ≡ b → pick b (lines_end form s n (at + 1)) None ≡ Some e → SectionThere form s n at e
    go true q i =
        let r = both (ltb at (length s)) (eqb (get_or s at 0) n) q in
        let h = ltb-true at (length s) r.0 in
        record { inside = h; counted = eqb-true (get_or s at 0) n r.1; lines = i; within = (lines-within form s n (at + 1) e (omega arith) i).1 }
    go false q i = let z : ◌≡◌ {A = ℕ} 0 1 = cc in absurd (omega arith)

-- ---- the sheet
rest-test : (s : List ℕ) (e : ℕ) → e ≤ length s → eqb (length (drop e s)) 0 ≡ eqb e (length s)
rest-test s e h = go (eqb e (length s)) refl
  where
    go : (b : Bool) → eqb e (length s) ≡ b → eqb (length (drop e s)) 0 ≡ b
    go true q = let n = eqb-true e (length s) q in eq-eqb (length (drop e s)) 0 (simp length-drop (omega arith))
    go false q = let n = eqb-false e (length s) q in ne_eqb (length (drop e s)) 0 (λ z. n (omega (arith, length-drop e s)))

module _ (f s : List ℕ) where
  last-reads : (v c : ℕ) (x : Option ℕ) → section_end Completed s (count f variables) c ≡ x
      → on_section (section_at s (lines_in Completed s (count f variables) (c + 1)) x) no (λ cs n. pick (eqb (length n) 0)
      (read (record { type_lines = lines_in Types s (count f types) 1; variable_lines = lines_in Variables s (count f variables) (v + 1); completed_lines = cs })) no)
      ≡ read_of f s (on_end x (λ e. pick (eqb e (length s)) (Some (lines v c)) None) None)
  unfolding read_of sheet_at
  last-reads v c (Some e) q = rw (rest-test s e (section-there Completed s (count f variables) c e q).within) (go (eqb e (length s)))
    where
      go : (b : Bool) → pick b (read (sheet_at f s v c)) no ≡ read_of f s (pick b (Some (lines v c)) None)
      go true = refl
      go false = refl
  last-reads v c None q = refl

  second_reads : (v : ℕ) (x : Option ℕ)
      → on_section (section_at s (lines_in Variables s (count f variables) (v + 1)) x) no (λ vs m. on_section (read_section completed_cut (count f variables) m) no (λ cs n. pick (eqb (length n) 0)
      (read (record { type_lines = lines_in Types s (count f types) 1; variable_lines = vs; completed_lines = cs })) no))
      ≡ read_of f s (on_end x (λ c. last_of s (count f variables) v c) None)
  unfolding read_of last_of
  second_reads v (Some c) = rw (section-cut Completed s (count f variables) c) (last-reads v c (section_end Completed s (count f variables) c) refl)
  second_reads v None = refl

  first_reads : (x : Option ℕ)
      → on_section (section_at s (lines_in Types s (count f types) (0 + 1)) x) no (λ ts l. on_section (read_section variable_cut (count f variables) l) no (λ vs m. on_section (read_section completed_cut (count f variables) m) no (λ cs n. pick (eqb (length n) 0)
      (read (record { type_lines = ts; variable_lines = vs; completed_lines = cs })) no)))
      ≡ read_of f s (on_end x (λ v. variables_of s (count f variables) v) None)
  unfolding read_of variables_of
  first_reads (Some v) = rw (section-cut Variables s (count f variables) v) (second_reads v (section_end Variables s (count f variables) v))
  first_reads None = refl

  -- what was found is what the definition reads
  pub found-reads : read_sheet f s ≡ read_of f s (found_of f s)
  unfolding read_sheet found_of
  found-reads = rw (section-cut Types s (count f types) 0) (first_reads (section_end Types s (count f types) 0))

  pub found-sheet : {x : Lines} → found_of f s ≡ Some x → read_sheet f s ≡ read (sheet_at f s x.variables x.completed)
  unfolding read_of
  found-sheet e = found-reads ∙ ap (read_of f s) e

  pub found-no : found_of f s ≡ None → read_sheet f s ≡ no
  unfolding read_of
  found-no e = found-reads ∙ ap (read_of f s) e
