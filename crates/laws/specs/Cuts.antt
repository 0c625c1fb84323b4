-- How a sheet's words are cut into lines, and back. Assumes nothing.
use Rattle.std.proofs.Math.Path.{◌≡◌, refl, ap, sym}
use Rattle.std.proofs.Common.{◌∙◌, arith, add-zero, take-append-drop, eqb-true}
use Rattle.std.specs.Prelude.{Bool, ◌&&◌, leb, length, get_or, take, drop}
use Rattle.std.proofs.Math.Bool.{true, false}
use mathlib.Core.List.{List, [], ◌∷◌, ◌++◌, append_assoc}
use Prim.Native.Nat.{ℕ, zero, suc, ◌+◌, ◌*◌, ◌<◌}
use Rattle.std.proofs.Math.Dec.{eqb}
use Rattle.definition.specs.Base.{choose}
use Rattle.definition.specs.Sheet.{lines_from, are_trees, Cut, cut, broken, tree_cut, empty_cut, type_cut, variable_cut, completed_cut, Section, section, unreadable, on_cut, on_section, cut_lines, read_section}

-- the words of a cut, of lines, of a section
cut_words : Cut → List ℕ
cut_words (cut w m) = w ++ m
cut_words broken = []

unfoldable pub all_words : List (List ℕ) → List ℕ
all_words [] = []
all_words (w ∷ ws) = w ++ all_words ws

-- ---- a line that was cut off stood there
abbrev pub Backs : (List ℕ → Cut) → Type 0
Backs line = (l w m : List ℕ) → line l ≡ cut w m → l ≡ w ++ m

tree-back : (front : List ℕ) (k : ℕ) (l w m : List ℕ) → tree_cut front k l ≡ cut w m → front ++ l ≡ w ++ m
unfolding tree_cut cut_words
tree-back front k l w m = go (leb (6 * k) (length l) && are_trees (take (6 * k) l) 1)
  where
    go : (b : Bool) → choose b (λ u. cut (front ++ take (6 * k) l) (drop (6 * k) l)) (λ u. broken) ≡ cut w m → front ++ l ≡ w ++ m
    go true e = ap (λ x. front ++ x) (sym (take-append-drop (6 * k) l)) ∙ sym (append_assoc front (take (6 * k) l) (drop (6 * k) l)) ∙ ap cut_words e
    go false e = let z : ◌≡◌ {A = ℕ} 0 1 = cc in absurd (omega arith)

empty_back : (front : List ℕ) (b : Bool) (l w m : List ℕ) → empty_cut front b l ≡ cut w m → front ++ l ≡ w ++ m
unfolding empty_cut cut_words
empty_back front true l w m e = ap cut_words e
empty_back front false l w m e = let z : ◌≡◌ {A = ℕ} 0 1 = cc in absurd (omega arith)

either-back : (front : List ℕ) (s k : ℕ) (zeros : Bool) (l w m : List ℕ)
    → choose (eqb s 0) (λ u. tree_cut front k l) (λ u. empty_cut front zeros l) ≡ cut w m → front ++ l ≡ w ++ m
either-back front s k zeros l w m = go (eqb s 0)
  where
    go : (b : Bool) → choose b (λ u. tree_cut front k l) (λ u. empty_cut front zeros l) ≡ cut w m → front ++ l ≡ w ++ m
    go true = tree-back front k l w m
    go false = empty_back front zeros l w m

no-back : (l w m : List ℕ) → broken ≡ cut w m → l ≡ w ++ m
no-back l w m e = let z : ◌≡◌ {A = ℕ} 0 1 = cc in absurd (omega arith)

pub type-back : Backs type_cut
unfolding type_cut
type-back [] w m = no-back [] w m
type-back (a ∷ []) w m = no-back (a ∷ []) w m
type-back (a ∷ b ∷ []) w m = no-back (a ∷ b ∷ []) w m
type-back (a ∷ b ∷ c ∷ l) w m = either-back (a ∷ b ∷ c ∷ []) b c _ l w m

pub variable-back : Backs variable_cut
unfolding variable_cut
variable-back [] w m = no-back [] w m
variable-back (a ∷ []) w m = no-back (a ∷ []) w m
variable-back (a ∷ b ∷ l) w m = either-back (a ∷ b ∷ []) a b _ l w m

pub completed-back : Backs completed_cut
unfolding completed_cut
completed-back [] w m = no-back [] w m
completed-back (a ∷ []) w m = no-back (a ∷ []) w m
completed-back (a ∷ b ∷ []) w m = no-back (a ∷ b ∷ []) w m
completed-back (a ∷ b ∷ c ∷ l) w m = either-back (a ∷ b ∷ c ∷ []) a c _ l w m

-- ---- so did the lines of a section
section_words : Section → List ℕ
section_words (section ws m) = all_words ws ++ m
section_words unreadable = []

section_lines : Section → ℕ
section_lines (section ws m) = length ws
section_lines unreadable = 0

pub record Stood (l : List ℕ) (ws : List (List ℕ)) (m : List ℕ) (k : ℕ) : Type 0 where
  pub words : l ≡ all_words ws ++ m
  pub lines : length ws ≡ k

module _ (line : List ℕ → Cut) (backs : Backs line) where
  pub lines-back : (k : ℕ) (l : List ℕ) (ws : List (List ℕ)) (m : List ℕ) → cut_lines line k l ≡ section ws m → Stood l ws m k
  unfolding cut_lines all_words section_words section_lines
  lines-back zero l ws m e₀ = record { words = ap section_words e₀; lines = sym (ap section_lines e₀) }
  lines-back (suc k) l ws m e₀ = go (line l) refl (λ n. lines-back k n) e₀
    where
      inner : (w n : List ℕ) (s : Section) → cut_lines line k n ≡ s → line l ≡ cut w n
          → ((ws : List (List ℕ)) (m : List ℕ) → cut_lines line k n ≡ section ws m → Stood n ws m k)
          → on_section s unreadable (λ vs o. section (w ∷ vs) o) ≡ section ws m → Stood l ws m (suc k)
      inner w n (section vs o) q p ih e =
          let x = ih vs o q in
          record {
            words = backs l w n p ∙ ap (λ y. w ++ y) x.words ∙ sym (append_assoc w (all_words vs) o) ∙ ap section_words e;
            lines = sym (ap section_lines e) ∙ ap suc x.lines;
          }
      inner w n unreadable q p ih e = let z : ◌≡◌ {A = ℕ} 0 1 = cc in absurd (omega arith)

      go : (c : Cut) → line l ≡ c → ((n : List ℕ) (ws : List (List ℕ)) (m : List ℕ) → cut_lines line k n ≡ section ws m → Stood n ws m k)
          → on_cut c unreadable (λ w n. on_section (cut_lines line k n) unreadable (λ vs o. section (w ∷ vs) o)) ≡ section ws m → Stood l ws m (suc k)
      go (cut w n) p ih e = inner w n (cut_lines line k n) refl p (ih n) e
      go broken p ih e = let z : ◌≡◌ {A = ℕ} 0 1 = cc in absurd (omega arith)

  pub section-back : (n : ℕ) (l : List ℕ) (ws : List (List ℕ)) (m : List ℕ) → read_section line n l ≡ section ws m → (l ≡ n ∷ (all_words ws ++ m)) × (length ws ≡ n)
  unfolding read_section
  section-back n [] ws m e₀ = let z : ◌≡◌ {A = ℕ} 0 1 = cc in absurd (omega arith)
  section-back n (c ∷ l) ws m e₀ = go (eqb c n) refl e₀
    where
      go : (b : Bool) → eqb c n ≡ b → choose b (λ u. cut_lines line n l) (λ u. unreadable) ≡ section ws m → (c ∷ l ≡ n ∷ (all_words ws ++ m)) × (length ws ≡ n)
      go true q e = let x = lines-back n l ws m e in (rw (eqb-true c n q, x.words), x.lines)
      go false q e = let z : ◌≡◌ {A = ℕ} 0 1 = cc in absurd (omega arith)

-- ---- lines that are those of a function are its lines
pub lines_of : (g : ℕ → List ℕ) (i : ℕ) (ws : List (List ℕ)) → ((t : ℕ) → t < length ws → get_or ws t [] ≡ g (i + t)) → all_words ws ≡ lines_from g i (length ws)
unfolding all_words lines_from
lines_of g i [] h = refl
lines_of g i (w ∷ ws) h =
    let first : w ≡ g i = h 0 (omega arith) ∙ ap g (add-zero i) in
    let e : (t : ℕ) → i + suc t ≡ suc i + t = λ t. omega arith in
    rw (first, lines_of g (suc i) ws (λ t l. h (suc t) (omega arith) ∙ ap g (e t)))
