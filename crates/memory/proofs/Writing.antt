-- A law for each call and each return of write.rt. Assumes nothing.
use mathlib.Core.Path.{◌≡◌, ap, sym, subst, ◌∙◌}
use mathlib.Core.Bool.{Bool, true, false}
use mathlib.Core.List.{List, ◌++◌}
use Prim.Native.Nat.{ℕ, ◌*◌, ◌/◌, ◌≤◌, ◌<◌}
use native.Mathlib.Omega.{arith}
use lib.Dec.{leb}
use lib.ListN.{length, drop}
use borrow.Author.Rules.{rules}
use borrow.Author.Tests.{le-leb, lt-leb}
use Rattle.definition.specs.Tree.{nodes}
use Rattle.definition.specs.Starting.{variable_outcome}
use Rattle.definition.specs.Answers.{refuses, answered, over}
use Rattle.laws.specs.Puts.{Puts}
use Rattle.laws.specs.Whole.{flatten-length}
use Rattle.resolver.specs.Trees.{Stands}
use Rattle.resolver.proofs.Answering.{stands-tree, stands_none, stands-large}
use Rattle.memory_definition.specs.Cells.{Cell, variable_cells}
use Rattle.memory_definition.specs.Forms.{file_characters}
use Rattle.memory_definition.specs.Memory.{held_all, narrow_all, bytes_all, size_all}
use Rattle.memory_definition.specs.Answers.{memory_says, cell_bytes, cells_refused, cells_answer, cells_out, memory_of, memory_in}
use Rattle.memory_laws.specs.InWords.{cells_from}
use Rattle.memory_laws.specs.Lengths.{bytes-all-long}
use Rattle.memory.specs.Trees.{TreeIn, Laid, Writable, WritesCells, WritesMemory}
use Rattle.std.specs.Prelude.{Option, Some, None, Ok, Err}
use Rattle.std.specs.Prelude as std
use Rattle.definition.specs.declared.answers.Refusal.{Refusal}
use Rattle.definition.specs.declared.answers.Refusal.TheVariants as refusal
use Rattle.definition.specs.Answers.{number_of, tree_says}
use Rattle.acceptance.proofs.Wanting.{not-zero}

-- ---- `write_cells`
module _ (f : List ℕ) (cs : List Cell) {b : Bool} (h : b ≡ held_all f cs) where
  pub unheld : {old : List ℕ} → b ≡ false → WritesCells f cs old (Err refusal.NotHeld) old
  unfolding number_of tree_says cells_answer cells_out cells_refused
  unheld e = let k : held_all f cs ≡ false = sym h ∙ e in record { says = rw k; is = rw k }

  module _ (e : b ≡ true) {d : Bool} (w : d ≡ narrow_all f (file_characters f) cs) where
    pub too_wide : {old : List ℕ} → d ≡ false → WritesCells f cs old (Err refusal.Wide) old
    unfolding number_of tree_says cells_answer cells_out cells_refused
    too_wide q = let k : held_all f cs ≡ true = sym h ∙ e in let l : narrow_all f (file_characters f) cs ≡ false = sym w ∙ q in record { says = rw (k, l); is = rw (k, l) }

    pub writable : d ≡ true → Writable f cs
    writable q = record { held = sym h ∙ e; narrow = sym w ∙ q }

pub ruleset cell_writing = (rules, unheld, too_wide, writable)

-- ---- `write_held`
module _ (f : List ℕ) (cs : List Cell) (h : Writable f cs) {n : ℕ} (s : n ≡ size_all f cs) where
  many : length (cell_bytes f cs) ≡ n
  unfolding cell_bytes
  many = bytes-all-long f (file_characters f) cs h.held ∙ sym s

  pub too_short : {old : List ℕ} → length old < n → WritesCells f cs old (Err refusal.Short) old
  unfolding number_of tree_says cells_answer cells_out cells_refused
  too_short {old} l =
      let z : leb (length (cell_bytes f cs)) (length old) ≡ false = rw many (lt-leb n (length old) l) in
      record { says = rw (h.held, h.narrow, z); is = rw (h.held, h.narrow, z) }

  pub all-written : {old : List ℕ} → n ≤ length old → {e : ℕ} {new : List ℕ} → Puts (bytes_all f (file_characters f) cs) old 0 e new
      → WritesCells f cs old (Ok (Some n)) new
  unfolding number_of tree_says cells_answer cells_out cells_refused over cell_bytes
  all-written {old} l {e} {new} p =
      let z : leb (length (bytes_all f (file_characters f) cs)) (length old) ≡ true = rw many (le-leb n (length old) l) in
      let k : e ≡ length (bytes_all f (file_characters f) cs) = omega (arith, p.ends) in
      let w : new ≡ bytes_all f (file_characters f) cs ++ drop (length (bytes_all f (file_characters f) cs)) old =
      p.is ∙ ap (λ (k : ℕ). bytes_all f (file_characters f) cs ++ drop k old) k in
      record { says = rw (h.held, h.narrow, z, many); is = rw (h.held, h.narrow, z) w }

pub size_fits : (f : List ℕ) (cs : List Cell) {n : ℕ} → n ≡ size_all f cs → {l : ℕ} → n ≤ l → size_all f cs ≤ l
size_fits f cs e h = omega arith

pub ruleset held_writing = (rules, too_short, all-written, size_fits)

-- ---- `write_tree`
module _ {f : List ℕ} {v : ℕ} {room : List ℕ} {n : ℕ} (h : TreeIn f v room n) {shapes : List ℕ} (l : Laid f v room shapes n) {cs : List Cell} (e : cs ≡ cells_from room shapes 0 n) where
  pub tree-written : {old : List ℕ} {r : std.Result (Option ℕ) Refusal} {new : List ℕ} → WritesCells f cs old r new → WritesMemory f v (variable_outcome f v) old r new
  unfolding memory_of memory_in
  tree-written {old} {r} {new} w =
      let c : WritesCells f (variable_cells f v h.tree) old r new = subst (λ (cs : List Cell). WritesCells f cs old r new) (e ∙ l.cells h.tree h.is) w in
      record { says = rw h.is c.says; is = rw h.is c.is }

pub ruleset tree_writing = (rules, tree-written)

-- ---- `write_variable`
module _ {f : List ℕ} {v : ℕ} {room : List ℕ} where
  pub large-refused : {old : List ℕ} {x : Refusal} → Stands (variable_outcome f v) (Err x) room → {r : std.Result (Option ℕ) Refusal} → r ≡ Err x → WritesMemory f v (variable_outcome f v) old r old
  unfolding number_of tree_says memory_of memory_in
  large-refused h e = let k = stands-large (variable_outcome f v) h in record { says = rw (e, k.0, k.1); is = rw k.0 }

  module _ {a : std.Result (Option ℕ) Refusal} (h : Stands (variable_outcome f v) a room) {x : Option ℕ} (q : a ≡ Ok x) where
    pub there : {e : ℕ} → x ≡ Some e → TreeIn f v room (e / 6)
    there {e} i =
        let y = stands-tree (variable_outcome f v) h (q ∙ ap (λ (x : Option ℕ). Ok x) i) in
        let k : e ≡ 6 * nodes y.tree = omega (arith, y.stands.long, flatten-length y.tree) in
        record { tree = y.tree; is = y.is; counted = omega arith; stands = rw (← k) y.stands }

    pub none_written : {old : List ℕ} → x ≡ None → WritesMemory f v (variable_outcome f v) old (Ok None) old
    unfolding tree_says memory_of memory_in
    none_written i = let e = stands_none (variable_outcome f v) h (q ∙ ap (λ (x : Option ℕ). Ok x) i) in record { says = rw e; is = rw e }

pub ruleset variable_writing = (rules, large-refused, there, none_written)

-- ---- `memory_answer`: the answer and the bytes, by the refusal
module _ {refused : ℕ} (f : List ℕ) (v : ℕ) (old : List ℕ) where
  pub answer-refused : (x : Refusal) → number_of x ≡ refused → {r : std.Result (Option ℕ) Refusal} → r ≡ Err x → memory_says r ≡ answered refused refuses (λ u. memory_of f v (variable_outcome f v) (length old))
  unfolding tree_says
  answer-refused x e q = rw (q, ← e) (rw (not-zero x))

  pub bytes-refused : (x : Refusal) → number_of x ≡ refused → old ≡ answered refused (λ n. old) (λ u. memory_in f v (variable_outcome f v) old)
  bytes-refused x e = rw (← e) (rw (not-zero x))

  module _ (z : refused ≡ 0) {s : List ℕ} (is : s ≡ f) {r : std.Result (Option ℕ) Refusal} {new : List ℕ} (a : WritesMemory s v (variable_outcome s v) old r new) where
    pub answer-passed : memory_says r ≡ answered refused refuses (λ u. memory_of f v (variable_outcome f v) (length old))
    answer-passed = rw (z, ← is) a.says

    pub bytes-passed : new ≡ answered refused (λ n. old) (λ u. memory_in f v (variable_outcome f v) old)
    bytes-passed = rw (z, ← is) a.is
