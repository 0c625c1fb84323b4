-- Bytes that are read are the bytes of what is read, which has no characters cut, and bytes that are refused (14) are those of no tree of these parts. Assumes nothing.
use Rattle.std.specs.Prelude.{◌≡◌, Bool, false, ◌&&◌, eqb, take, drop}
use Rattle.std.proofs.Math.Path.{refl, ap, sym}
use Rattle.std.proofs.Common.{◌∙◌, length-append, take-append-drop}
use Rattle.std.proofs.Math.Bool.{true}
use mathlib.Core.List.{List, [], ◌∷◌, ◌++◌, map, append_assoc}
use Prim.Native.Nat.{ℕ, suc, ◌+◌, ◌^◌, ◌≤◌}
use native.Mathlib.Omega.{arith}
use Rattle.std.proofs.Math.Dec.{leb}
use Rattle.std.proofs.Math.ListN.{length}
use borrow.Author.Tests.{leb-true}
use Rattle.definition.specs.declared.records.Constant.{Constant}
use Rattle.definition.specs.Base.{pick}
use Rattle.definition.specs.Layout.{count, shapes}
use Rattle.definition.specs.Records.{constant_of}
use Rattle.laws.specs.Cases.{never, both}
use Rattle.memory_definition.specs.declared.form.Form.{Form}
use Rattle.memory_definition.specs.declared.form.Form.TheVariants as form
use Rattle.memory_definition.specs.Cells.{Cell, cell}
use Rattle.memory_definition.specs.Numbers.{literal, literal_read, character_bytes, string_bytes, text_from, length_from, string_from}
use Rattle.memory_definition.specs.Forms.{Characters, form_of, constant_on, fits_up_to, held_constant, held_as, held, characters_from, text_on, every_below, narrow_as, narrow, bytes_as, bytes, real_read, string_read, node_as, node_read, text_as, text_read, same_bytes, listed, readable}
use Rattle.memory_definition.specs.Memory.{held_all, narrow_all, bytes_all, size, readable_all, text_all, node_words_of, nodes_all}
use Rattle.memory_laws.specs.Bytes.{Bytes, bytes_take, bytes_drop, same_bytes_lem, text-many, text-below}
use Rattle.memory_laws.specs.Strings.{listed-string, listed-own}
use Rattle.memory_laws.specs.Uncut.{uncut_cell, none-cut}
use Rattle.memory_laws.specs.Fits.{held_by, held-width, Fitting, fitting, Again, again-form, Literals, literal-form, literal-width}
use Rattle.memory_laws.specs.Lengths.{AlikeAll, all_done, all_next}
use Rattle.memory_laws.specs.Same.{SizedAll}
use Rattle.memory_laws.specs.ReadForms.{string-plain}
use Rattle.memory_laws.specs.ReadBack.{kind-read, form-again, written-read-back}
use Rattle.memory_laws.specs.Parts.{alike_read, readable-all-alike}

-- ---- the nodes read, each at the place of the node that it is read for
unfoldable pub cells_read : List ℕ → ℕ → List Cell → List ℕ → List Cell
cells_read f at [] bs = []
cells_read f at (c ∷ cs) bs =
    let own : List ℕ = take (size f c) bs in
    cell c.shape (node_read f at c own) ∷ cells_read f (at + length (text_read f c own)) cs (drop (size f c) bs)

unfoldable pub cell_words : List Cell → List ℕ
cell_words [] = []
cell_words (c ∷ cs) = node_words_of c.node ++ cell_words cs

pub words-read : (f : List ℕ) (at : ℕ) (cs : List Cell) (bs : List ℕ) → nodes_all f at cs bs ≡ cell_words (cells_read f at cs bs)
unfolding nodes_all cell_words cells_read
words-read f at [] bs = refl
words-read f at (c ∷ cs) bs =
    ap (λ l. node_words_of (node_read f at c (take (size f c) bs)) ++ l) (words-read f (at + length (text_read f c (take (size f c) bs))) cs (drop (size f c) bs))

-- ---- one form after the other: a node whose characters stand behind others is held and written as one whose characters stand first
record Moved (f : List ℕ) (c : Cell) (F : Form) (bs xs ys : List ℕ) : Type 0 where
  kept : held_as f F (cell c.shape (node_as f F 0 c bs)) ≡ true → held_as f F (cell c.shape (node_as f F (length xs) c bs)) ≡ true
  slim : narrow_as F (listed (xs ++ (text_as F bs ++ ys))) (cell c.shape (node_as f F (length xs) c bs)) ≡ true
  same : bytes_as f F (listed (xs ++ (text_as F bs ++ ys))) (cell c.shape (node_as f F (length xs) c bs)) ≡ bytes_as f F (listed (text_as F bs)) (cell c.shape (node_as f F 0 c bs))
  wide : held_as f F (cell c.shape (node_as f F 0 c bs)) ≡ true → (node_as f F (length xs) c bs).width ≤ 1

module _ (f : List ℕ) (c : Cell) (bs xs ys : List ℕ) where
  -- what is known of the first, by its form
  record Firsts (F : Form) : Type 0 where
    fits : held_constant f (cell c.shape (node_as f F 0 c bs)) ≡ true → Fitting F (constant_on (node_as f F 0 c bs))
    again : (d : Constant) → held_constant f (cell c.shape (node_as f F 0 c bs)) ≡ true → Again F (constant_on (node_as f F 0 c bs)) d → fits_up_to f (suc (count f shapes)) c.shape d ≡ true
    literals : Literals F

  moved-string : (most width : ℕ) → Bytes bs → Firsts (form.String most width) → Moved f c (form.String most width) bs xs ys
  unfolding held_as narrow_as bytes_as node_as text_as string_read text_on string_from constant_on constant_of
  moved-string most width b k =
      let n : ℕ = length_from bs in
      let one : ℕ = character_bytes width in
      let cs : List ℕ = text_from one n (drop 4 bs) in
      let many : length (text_from one n (drop 4 bs)) ≡ n = text-many one n (drop 4 bs) in
      let begin : ℕ = pick (eqb n 0) 0 (length xs) in
      let d : Constant = constant_of 8 0 begin n width in
      let wide : held_constant f (cell c.shape (string_read 0 n width)) ≡ true → leb width 1 ≡ true = λ e. held-width f (cell c.shape (string_read 0 n width)) most width e (k.fits e) in
      let text : characters_from (listed (xs ++ (cs ++ ys))) begin n ≡ cs = listed-string cs n many xs ys in
      record {
        kept = λ e. held_by f c.shape d (string-plain begin n width (wide e)) (k.again d e (refl, refl, (k.fits e).1, refl, λ z. rw z));
        slim = ap (every_below (256 ^ one)) text ∙ text-below one n (drop 4 bs) (bytes_drop 4 bs b);
        same = ap (string_bytes most width) (text ∙ sym (listed-own cs n many));
        wide = λ e. leb-true width 1 (wide e);
      }

  moved : (F : Form) → Bytes bs → Firsts F → Moved f c F bs xs ys
  unfolding held_as narrow_as bytes_as node_as text_as real_read literal_read literal constant_of
  moved form.Head b k = record { kept = λ e. e; slim = refl; same = refl; wide = λ e. omega arith }
  moved form.Null b k = record { kept = λ e. e; slim = refl; same = refl; wide = λ e. omega arith }
  moved form.Bool b k = record { kept = λ e. e; slim = refl; same = refl; wide = λ e. omega arith }
  moved (form.Number signed bits kind width) b k = record { kept = λ e. e; slim = refl; same = refl; wide = λ e. literal-width signed kind width k.literals }
  moved form.Real b k = record { kept = λ e. e; slim = refl; same = refl; wide = λ e. omega arith }
  moved form.LongReal b k = record { kept = λ e. e; slim = refl; same = refl; wide = λ e. omega arith }
  moved (form.String most width) b k = moved-string most width b k
  moved (form.Enumeration first count) b k = record { kept = λ e. e; slim = refl; same = refl; wide = λ e. omega arith }
  moved form.Nothing b k = record { kept = λ e. e; slim = refl; same = refl; wide = λ e. omega arith }

-- ---- one node
module _ (f : List ℕ) (c : Cell) (bs xs ys : List ℕ) (h : Bytes bs) (e : readable f c bs ≡ true) where
  abbrev first : Cell
  first = cell c.shape (node_read f 0 c bs)

  abbrev behind : Cell
  behind = cell c.shape (node_read f (length xs) c bs)

  first-form : form_of f first ≡ form_of f c
  unfolding node_read
  first-form = form-again f c (node_read f 0 c bs) (kind-read f (form_of f c) 0 c bs)

  behind-form : form_of f behind ≡ form_of f c
  unfolding node_read
  behind-form = form-again f c (node_read f (length xs) c bs) (kind-read f (form_of f c) (length xs) c bs)

  is_read : (held f first ≡ true) × (bytes f (listed (text_read f c bs)) first ≡ bs)
  unfolding readable
  is_read =
      let x = both (held f first) (same_bytes (bytes f (listed (text_read f c bs)) first) bs) e in
      (x.0, same_bytes_lem (bytes f (listed (text_read f c bs)) first) bs x.1)

  moves : Moved f c (form_of f c) bs xs ys
  unfolding node_read
  moves =
      moved f c bs xs ys (form_of f c) h
      (record { fits = λ z. rw first-form at (fitting f first z); again = λ d z a. again-form f first d z (rw first-form a); literals = literal-form f c })

  first-held : held_as f (form_of f c) first ≡ true
  unfolding held
  first-held = ap (λ F. held_as f F first) (sym first-form) ∙ is_read.0

  held-again : held f behind ≡ true
  unfolding held node_read
  held-again = ap (λ F. held_as f F behind) behind-form ∙ moves.kept first-held

  uncut-again : uncut_cell behind ≡ behind
  unfolding node_read
  uncut-again = none-cut behind (moves.wide first-held)

  narrow-again : narrow f (listed (xs ++ (text_read f c bs ++ ys))) behind ≡ true
  unfolding narrow node_read text_read
  narrow-again = ap (λ F. narrow_as F (listed (xs ++ (text_read f c bs ++ ys))) behind) behind-form ∙ moves.slim

  bytes-again : bytes f (listed (xs ++ (text_read f c bs ++ ys))) behind ≡ bs
  unfolding bytes node_read text_read
  bytes-again =
      ap (λ F. bytes_as f F (listed (xs ++ (text_read f c bs ++ ys))) behind) behind-form
      ∙ moves.same
      ∙ ap (λ F. bytes_as f F (listed (text_read f c bs)) first) (sym first-form)
      ∙ is_read.1

-- ---- a whole tree: what is read has the parts asked for and no characters cut, is held and narrow, and is written as these bytes
pub record WrittenAgain (f : List ℕ) (cs : List Cell) (bs text : List ℕ) (ds : List Cell) : Type 0 where
  pub alike : AlikeAll cs ds
  pub uncut : map uncut_cell ds ≡ ds
  pub kept : held_all f ds ≡ true
  pub slim : narrow_all f (listed text) ds ≡ true
  pub same : bytes_all f (listed text) ds ≡ bs

again_behind : (f : List ℕ) (cs : List Cell) (bs xs : List ℕ) (at : ℕ) → at ≡ length xs → Bytes bs → readable_all f cs bs ≡ true
    → WrittenAgain f cs bs (xs ++ text_all f cs bs) (cells_read f at cs bs)
unfolding readable_all text_all cells_read held_all narrow_all bytes_all
again_behind f [] [] xs at l h e = record { alike = all_done; uncut = refl; kept = refl; slim = refl; same = refl }
again_behind f [] (b ∷ bs) xs at l h e = never e
again_behind f (c ∷ cs) bs xs at l h e =
    let own : List ℕ = take (size f c) bs in
    let more : List ℕ = drop (size f c) bs in
    let text : List ℕ = text_read f c own in
    let later : List ℕ = text_all f cs more in
    let x = both (readable f c own) (readable_all f cs more) e in
    let b : Bytes (take (size f c) bs) = bytes_take (size f c) bs h in
    let long : at + length text ≡ length (xs ++ text) = ap (λ n. n + length text) l ∙ sym (length-append xs text) in
    let rest = rw (append_assoc xs text later) at (again_behind f cs more (xs ++ text) (at + length text) long (bytes_drop (size f c) bs h) x.1) in
    let d : ℕ → Cell = λ n. cell c.shape (node_read f n c own) in
    record {
      alike = all_next (alike_read f at c own) rest.alike;
      uncut = both-same (ap (λ n. uncut_cell (d n)) l ∙ uncut-again f c own xs later b x.0 ∙ ap d (sym l)) rest.uncut;
      kept = and-true (ap (λ n. held f (d n)) l ∙ held-again f c own xs later b x.0) rest.kept;
      slim = and-true (ap (λ n. narrow f (listed (xs ++ (text ++ later))) (d n)) l ∙ narrow-again f c own xs later b x.0) rest.slim;
      same =
          ap (λ n. bytes f (listed (xs ++ (text ++ later))) (d n) ++ bytes_all f (listed (xs ++ (text ++ later))) (cells_read f (at + length text) cs more)) l
          ∙ ap (λ y. y ++ bytes_all f (listed (xs ++ (text ++ later))) (cells_read f (at + length text) cs more)) (bytes-again f c own xs later b x.0)
          ∙ ap (λ y. own ++ y) rest.same
          ∙ take-append-drop (size f c) bs;
    }
  where
    and-true : {a b : Bool} → a ≡ true → b ≡ true → a && b ≡ true
    and-true p q = rw (p, q)

    both-same : {x y : Cell} {xs ys : List Cell} → x ≡ y → xs ≡ ys → x ∷ xs ≡ y ∷ ys
    both-same p q = rw (p, q)

pub written-again : (f : List ℕ) (cs : List Cell) (bs : List ℕ) → Bytes bs → readable_all f cs bs ≡ true → WrittenAgain f cs bs (text_all f cs bs) (cells_read f 0 cs bs)
written-again f cs bs h e = again_behind f cs bs [] 0 refl h e

-- ---- refusal 14: no tree of these parts is written as these bytes
pub fourteen-exactly : (f : List ℕ) (cs : List Cell) (bs : List ℕ) → readable_all f cs bs ≡ false
    → (ds : List Cell) (text : Characters) → AlikeAll cs ds → SizedAll f ds → held_all f ds ≡ true → narrow_all f text ds ≡ true → bytes_all f text ds ≡ bs → ⊥
fourteen-exactly f cs bs refused ds text a s h n e =
    let read : readable_all f ds bs ≡ true = ap (readable_all f ds) (sym e) ∙ (written-read-back f text ds s h n).readable in
    never (sym refused ∙ readable-all-alike f bs a ∙ read)
