-- A law for each call and each return of read.rt. Assumes nothing.
use mathlib.Core.Path.{◌≡◌, refl, ap, sym, subst, ◌∙◌}
use mathlib.Core.Bool.{Bool, true, false}
use mathlib.Core.List.{List, [], ◌∷◌, ◌++◌}
use Prim.Native.Nat.{ℕ, ◌+◌, ◌*◌, ◌^◌, ◌≤◌, ◌<◌}
use native.Mathlib.Omega.{arith}
use lib.Dec.{leb}
use lib.ListN.{length, take, drop, length-append}
use borrow.Author.Rules.{rules}
use borrow.Author.Tests.{le-leb, lt-leb}
use Rattle.definition.specs.Starting.{variable_outcome}
use Rattle.definition.specs.Answers.{refuses, answered, over, tree_says}
use Rattle.resolver.specs.Trees.{Stands}
use Rattle.resolver.proofs.Answering.{stands_none, stands-large}
use Rattle.memory_definition.specs.Cells.{Cell, variable_cells}
use Rattle.memory_definition.specs.Forms.{text_read}
use Rattle.memory_definition.specs.Memory.{size, readable_all, text_all, node_words_of, nodes_all}
use Rattle.memory_definition.specs.Answers.{read_refused, read_answer, read_over, tree_read_of, nodes_read_of, text_read_of}
use Rattle.memory_laws.specs.InWords.{cells_from}
use Rattle.memory_nodes.specs.All.{Written}
use Rattle.memory.specs.Trees.{TreeIn, Few, Laid, ReadsCells, ReadsMemory}
use Rattle.std.specs.Prelude.{Option, Some, None, Ok, Err}
use Rattle.std.specs.Prelude as std
use Rattle.definition.specs.declared.answers.Refusal.{Refusal}
use Rattle.definition.specs.declared.answers.Refusal.TheVariants as refusal
use Rattle.definition.specs.Answers.{number_of}
use Rattle.acceptance.proofs.Wanting.{not-zero}

-- ---- how many words
nodes-long : (f : List ℕ) (at : ℕ) (cs : List Cell) (bs : List ℕ) → length (nodes_all f at cs bs) ≡ 6 * length cs
unfolding nodes_all node_words_of
nodes-long f at [] bs = refl
nodes-long f at (c ∷ cs) bs =
    let k = nodes-long f (at + length (text_read f c (take (size f c) bs))) cs (drop (size f c) bs) in
    simp length-append (omega (arith, k))

-- ---- `read_cells` and `read_held`
module _ (f : List ℕ) (cs : List Cell) (bs : List ℕ) where
  six : length (nodes_all f 0 cs bs) ≡ length cs * 6
  six = omega (arith, nodes-long f 0 cs bs)

  pub unread : {b : Bool} → b ≡ readable_all f cs bs → {nodes text : List ℕ} → b ≡ false → ReadsCells f cs bs nodes text (Err refusal.NotHeld) nodes text
  unfolding number_of tree_says read_answer read_over read_refused
  unread h e = let k : readable_all f cs bs ≡ false = sym h ∙ e in record { says = rw k; nodes_are = rw k; text_is = rw k }

  pub ready : Few f cs → {b : Bool} → b ≡ readable_all f cs bs → b ≡ true → Written f cs bs
  ready i h e = record { placed = i.placed; read = sym h ∙ e; few = i.few }

  nodes-fit : (m : ℕ) → length cs * 6 ≤ m → leb (length (nodes_all f 0 cs bs)) m ≡ true
  nodes-fit m l = rw six (le-leb (length cs * 6) m l)

  module _ (i : Written f cs bs) {n : ℕ} (c : n ≡ length cs) {nodes : List ℕ} where
    pub short-nodes : {text : List ℕ} → length nodes < n * 6 → ReadsCells f cs bs nodes text (Err refusal.Short) nodes text
    unfolding number_of tree_says read_answer read_over read_refused
    short-nodes l =
        let z : leb (length (nodes_all f 0 cs bs)) (length nodes) ≡ false = rw six (lt-leb (length cs * 6) (length nodes) (omega (arith, c))) in
        record { says = rw (i.read, z); nodes_are = rw (i.read, z); text_is = rw (i.read, z) }

    module _ (l : n * 6 ≤ length nodes) {m : ℕ} (s : m ≡ length (text_all f cs bs)) {text : List ℕ} where
      pub short-text : length text < m → ReadsCells f cs bs nodes text (Err refusal.Short) nodes text
      unfolding number_of tree_says read_answer read_over read_refused
      short-text q =
          let fit : leb (length (nodes_all f 0 cs bs)) (length nodes) ≡ true = nodes-fit (length nodes) (omega (arith, c)) in
          let y : leb (length (text_all f cs bs)) (length text) ≡ false = rw (← s) (lt-leb m (length text) q) in
          record { says = rw (i.read, fit, y); nodes_are = rw (i.read, fit, y); text_is = rw (i.read, fit, y) }

      pub all_read : m ≤ length text → {new_nodes new_text : List ℕ}
          → new_nodes ≡ nodes_all f 0 cs bs ++ drop (length cs * 6) nodes
          → new_text ≡ text_all f cs bs ++ drop (length (text_all f cs bs)) text
          → ReadsCells f cs bs nodes text (Ok (Some n)) new_nodes new_text
      unfolding number_of tree_says read_answer read_over read_refused over
      all_read q p t =
          let fit : leb (length (nodes_all f 0 cs bs)) (length nodes) ≡ true = nodes-fit (length nodes) (omega (arith, c)) in
          let y : leb (length (text_all f cs bs)) (length text) ≡ true = rw (← s) (le-leb m (length text) q) in
          record {
            says = rw (i.read, fit, y, ← c);
            nodes_are = rw (i.read, fit, y) (p ∙ ap (λ (d : ℕ). nodes_all f 0 cs bs ++ drop d nodes) (sym six));
            text_is = rw (i.read, fit, y) t;
          }

pub nodes_fits : {f : List ℕ} {cs : List Cell} {bs : List ℕ} → Written f cs bs → {n : ℕ} → n ≡ length cs → n * 6 < 2 ^ 64
nodes_fits i c = omega (arith, i.few, c)

pub nodes_room : (cs : List Cell) {n : ℕ} → n ≡ length cs → {l : ℕ} → n * 6 ≤ l → length cs * 6 ≤ l
nodes_room cs c h = omega (arith, c)

pub text-fits : (f : List ℕ) (cs : List Cell) (bs : List ℕ) {n : ℕ} → n ≡ length (text_all f cs bs) → {l : ℕ} → n ≤ l → length (text_all f cs bs) ≤ l
text-fits f cs bs e h = omega arith

pub ruleset cell_reading = (rules, unread, ready)

pub ruleset held_reading = (rules, short-nodes, short-text, all_read, text-fits, nodes_fits, nodes_room)

-- ---- `read_tree`
module _ {f : List ℕ} {v : ℕ} {room : List ℕ} {n : ℕ} (h : TreeIn f v room n) {shapes : List ℕ} (l : Laid f v room shapes n) {cs : List Cell} (e : cs ≡ cells_from room shapes 0 n) where
  pub tree-read : {bs nodes text : List ℕ} {r : std.Result (Option ℕ) Refusal} {new_nodes new_text : List ℕ} → ReadsCells f cs bs nodes text r new_nodes new_text
      → ReadsMemory f v (variable_outcome f v) bs nodes text r new_nodes new_text
  unfolding tree_read_of nodes_read_of text_read_of
  tree-read {bs} {nodes} {text} {r} {new_nodes} {new_text} w =
      let c : ReadsCells f (variable_cells f v h.tree) bs nodes text r new_nodes new_text =
      subst (λ (cs : List Cell). ReadsCells f cs bs nodes text r new_nodes new_text) (e ∙ l.cells h.tree h.is) w in
      record { says = rw h.is c.says; nodes_are = rw h.is c.nodes_are; text_is = rw h.is c.text_is }

pub ruleset tree_reading = (rules, tree-read)

-- ---- `read_variable`
module _ {f : List ℕ} {v : ℕ} {room : List ℕ} where
  pub large-unread : {bs nodes text : List ℕ} {x : Refusal} → Stands (variable_outcome f v) (Err x) room → {r : std.Result (Option ℕ) Refusal} → r ≡ Err x → ReadsMemory f v (variable_outcome f v) bs nodes text r nodes text
  unfolding number_of tree_says tree_read_of nodes_read_of text_read_of
  large-unread h e = let k = stands-large (variable_outcome f v) h in record { says = rw (e, k.0, k.1); nodes_are = rw k.0; text_is = rw k.0 }

  pub none_read : {a : std.Result (Option ℕ) Refusal} → Stands (variable_outcome f v) a room → {x : Option ℕ} → a ≡ Ok x → x ≡ None → {bs nodes text : List ℕ} → ReadsMemory f v (variable_outcome f v) bs nodes text (Ok None) nodes text
  unfolding tree_says tree_read_of nodes_read_of text_read_of
  none_read h q i = let e = stands_none (variable_outcome f v) h (q ∙ ap (λ (x : Option ℕ). Ok x) i) in record { says = rw e; nodes_are = rw e; text_is = rw e }

-- ---- `tree_answer`: the answer, the nodes and the characters, by the refusal
module _ {refused : ℕ} (f : List ℕ) (v : ℕ) (bs nodes text : List ℕ) where
  module _ (x : Refusal) (e : number_of x ≡ refused) where
    pub answer-unread : {r : std.Result (Option ℕ) Refusal} → r ≡ Err x → tree_says r ≡ answered refused refuses (λ u. tree_read_of f v (variable_outcome f v) bs (length nodes) (length text))
    unfolding tree_says
    answer-unread q = rw (q, ← e) (rw (not-zero x))

    pub nodes-unread : nodes ≡ answered refused (λ n. nodes) (λ u. nodes_read_of f v (variable_outcome f v) bs nodes (length text))
    nodes-unread = rw (← e) (rw (not-zero x))

    pub text-unread : text ≡ answered refused (λ n. text) (λ u. text_read_of f v (variable_outcome f v) bs (length nodes) text)
    text-unread = rw (← e) (rw (not-zero x))

  module _ (z : refused ≡ 0) {s : List ℕ} (is : s ≡ f) {r : std.Result (Option ℕ) Refusal} {new_nodes new_text : List ℕ} (a : ReadsMemory s v (variable_outcome s v) bs nodes text r new_nodes new_text) where
    pub answer-read : tree_says r ≡ answered refused refuses (λ u. tree_read_of f v (variable_outcome f v) bs (length nodes) (length text))
    answer-read = rw (z, ← is) a.says

    pub nodes-read : new_nodes ≡ answered refused (λ n. nodes) (λ u. nodes_read_of f v (variable_outcome f v) bs nodes (length text))
    nodes-read = rw (z, ← is) a.nodes_are

    pub text-read : new_text ≡ answered refused (λ n. text) (λ u. text_read_of f v (variable_outcome f v) bs (length nodes) text)
    text-read = rw (z, ← is) a.text_is
