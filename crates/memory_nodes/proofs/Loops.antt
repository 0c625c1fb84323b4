-- The loops of all.rt that count, and that put nodes and characters. Assumes nothing.
use mathlib.Core.Path.{◌≡◌, refl, ap, sym, ◌∙◌}
use mathlib.Core.List.{List, [], ◌∷◌, ◌++◌}
use Prim.Native.Nat.{ℕ, ◌+◌, ◌*◌, ◌≤◌}
use native.Mathlib.Omega.{arith}
use lib.ListN.{length, take, drop, length-append}
use lib.Seq.{drop-drop}
use mir.Syntax.{w32}
use mir.Val.{Fits}
use borrow.Author.Rules.{rules}
use Rattle.laws.specs.Puts.{Puts}
use Rattle.text.proofs.Putting.{Putting, putting-first, putting-more, putting-done}
use Rattle.memory_definition.specs.declared.form.Form.{Form}
use Rattle.memory_definition.specs.Cells.{Cell}
use Rattle.memory_definition.specs.Forms.{form_of, size_as, node_as, node_read, text_as, text_read}
use Rattle.memory_definition.specs.Memory.{size, text_all, node_words_of, nodes_all}
use Rattle.memory_nodes.specs.Reading.{own, seen, read-seen}
use Rattle.memory_nodes.specs.All.{Written}
use Rattle.memory_nodes.proofs.Along.{along-ready, text-next, along-sized, read_more, read-room, read-few}

-- ---- all characters and all nodes, one node more
node-next : (f : List ℕ) (c : Cell) (cs : List Cell) (bytes : List ℕ) (from : ℕ) {fm : Form} → fm ≡ form_of f c → (many : ℕ) → nodes_all f many (c ∷ cs) (drop from bytes)
    ≡ node_words_of (node_as f fm many c (own fm bytes from)) ++ nodes_all f (many + length (text_as fm (own fm bytes from))) cs (drop (from + size_as fm) bytes)
unfolding nodes_all size text_read node_read
node-next f c cs bytes from e many = rw (e, ← drop-drop (size_as (form_of f c)) from bytes)

nodes-long : (f : List ℕ) (cs : List Cell) (many : ℕ) (bs : List ℕ) → length (nodes_all f many cs bs) ≡ length cs * 6
unfolding nodes_all node_words_of
nodes-long f [] many bs = refl
nodes-long f (c ∷ cs) many bs = omega (arith, nodes-long f cs (many + length (text_read f c (take (size f c) bs))) (drop (size f c) bs))

pub text-none : (f : List ℕ) {cs : List Cell} (bs : List ℕ) → cs ≡ [] → text_all f cs bs ≡ []
unfolding text_all
text-none f bs n = ap (λ l. text_all f l bs) n

pub nodes-none : (f : List ℕ) {cs : List Cell} (many : ℕ) (bs : List ℕ) → cs ≡ [] → nodes_all f many cs bs ≡ []
unfolding nodes_all
nodes-none f many bs n = ap (λ l. nodes_all f many l bs) n

module _ (f bytes : List ℕ) {cs : List Cell} (from : ℕ) {c : Cell} {rest : List Cell} (n : cs ≡ c ∷ rest) {fm : Form} (e : fm ≡ form_of f c) {k : ℕ} (q : k ≡ size_as fm) where
  text-more : text_all f cs (drop from bytes) ≡ text_as fm (own fm bytes from) ++ text_all f rest (drop (from + k) bytes)
  text-more =
      ap (λ l. text_all f l (drop from bytes)) n
      ∙ text-next f c rest bytes from e
      ∙ ap (λ d. text_as fm (own fm bytes from) ++ text_all f rest (drop (from + d) bytes)) (sym q)

  nodes-more : (many : ℕ) {m : ℕ} → m ≡ length (text_as fm (own fm bytes from))
      → nodes_all f many cs (drop from bytes)
      ≡ node_words_of (node_as f fm many (seen c.node.kind c.node.low) (own fm bytes from)) ++ nodes_all f (many + m) rest (drop (from + k) bytes)
  nodes-more many {m} i =
      ap (λ l. nodes_all f many l (drop from bytes)) n
      ∙ node-next f c rest bytes from e many
      ∙ rw (q, i, read-seen f fm many c (own fm bytes from))

-- ---- counting
pub record Counting (f bytes : List ℕ) (all cs : List Cell) (from total : ℕ) : Type 0 where
  pub same : total + length (text_all f cs (drop from bytes)) ≡ length (text_all f all bytes)
  pub small : total + length cs * 65535 ≤ 2048 * 65535

pub counting-first : {f bytes : List ℕ} {cs : List Cell} → Written f cs bytes → Counting f bytes cs cs 0 0
counting-first r = record { same = omega arith; small = omega (arith, r.few) }

module _ {f bytes : List ℕ} {all cs : List Cell} {from total : ℕ} (x : Counting f bytes all cs from total) where
  module _ {c : Cell} {rest : List Cell} (n : cs ≡ c ∷ rest) where
    pub counting_more : {fm : Form} → fm ≡ form_of f c → {k : ℕ} → k ≡ size_as fm → {m : ℕ} → m ≡ length (text_as fm (own fm bytes from)) → m ≤ 65535 → Counting f bytes all rest (from + k) (total + m)
    counting_more {fm} e {k} q {m} i s =
        record {
          same = omega (arith, x.same, i, ap length (text-more f bytes from n e q), length-append (text_as fm (own fm bytes from)) (text_all f rest (drop (from + k) bytes)));
          small = omega (arith, x.small, s, ap length n);
        }

    pub counting-below : total + 65535 ≤ 2048 * 65535
    counting-below = omega (arith, x.small, ap length n)

  pub counting-done : cs ≡ [] → total ≡ length (text_all f all bytes)
  counting-done n = omega (arith, x.same, ap length (text-none f (drop from bytes) n))

pub ruleset counts = (rules, along-ready, read_more, read-room, counting-first, counting_more, counting-below, counting-done)

-- ---- putting nodes
pub record Noding (f bytes : List ℕ) (all : List Cell) (old : List ℕ) (cs : List Cell) (from many end : ℕ) (now : List ℕ) : Type 0 where
  pub putting : Putting (nodes_all f 0 all bytes) old 0 (nodes_all f many cs (drop from bytes)) now end
  pub small : many + length cs * 65535 ≤ 2048 * 65535

pub noding-first : {f bytes : List ℕ} {cs : List Cell} → Written f cs bytes → (old : List ℕ) → length cs * 6 ≤ length old → Noding f bytes cs old cs 0 0 0 old
noding-first {f} {bytes} {cs} r old h =
    record { putting = putting-first (nodes_all f 0 cs bytes) old 0 (omega (arith, nodes-long f cs 0 bytes)); small = omega (arith, r.few) }

module _ {f bytes : List ℕ} {all : List Cell} {old : List ℕ} {cs : List Cell} {from many end : ℕ} {now : List ℕ} (x : Noding f bytes all old cs from many end now) where
  module _ {c : Cell} {rest : List Cell} (n : cs ≡ c ∷ rest) where
    pub noding-room : end + 6 ≤ length now
    noding-room = omega (arith, x.putting.room, nodes-long f cs many (drop from bytes), ap length n)

    pub noding-fits : {m : ℕ} → m ≤ 65535 → Fits w32 (many + m)
    noding-fits s = record { fits = omega (arith, x.small, ap length n) }

    pub noding-more : {fm : Form} → fm ≡ form_of f c → {k : ℕ} → k ≡ size_as fm → {m : ℕ} → m ≡ length (text_as fm (own fm bytes from)) → m ≤ 65535 → {e : ℕ} {new : List ℕ}
        → Puts (node_words_of (node_as f fm many (seen c.node.kind c.node.low) (own fm bytes from))) now end e new → Noding f bytes all old rest (from + k) (many + m) e new
    noding-more {fm} e {k} q {m} i s p =
        record { putting = putting-more x.putting p (nodes_all f (many + m) rest (drop (from + k) bytes)) (nodes-more f bytes from n e q many i); small = omega (arith, x.small, s, ap length n) }

  pub noding-done : cs ≡ [] → now ≡ nodes_all f 0 all bytes ++ drop (length all * 6) old
  noding-done n =
      let p = putting-done x.putting (nodes-none f many (drop from bytes) n) in
      let e : end ≡ length all * 6 = omega (arith, p.ends, nodes-long f all 0 bytes) in
      p.is ∙ ap (λ j. nodes_all f 0 all bytes ++ drop j old) e

-- ---- putting characters
pub record Texting (f bytes : List ℕ) (all : List Cell) (old : List ℕ) (cs : List Cell) (from end : ℕ) (now : List ℕ) : Type 0 where
  pub putting : Putting (text_all f all bytes) old 0 (text_all f cs (drop from bytes)) now end

pub texting-first : (f bytes : List ℕ) (cs : List Cell) (old : List ℕ) → length (text_all f cs bytes) ≤ length old → Texting f bytes cs old cs 0 0 old
texting-first f bytes cs old h = record { putting = putting-first (text_all f cs bytes) old 0 (omega (arith, h)) }

module _ {f bytes : List ℕ} {all : List Cell} {old : List ℕ} {cs : List Cell} {from end : ℕ} {now : List ℕ} (x : Texting f bytes all old cs from end now) where
  module _ {c : Cell} {rest : List Cell} (n : cs ≡ c ∷ rest) {fm : Form} (e : fm ≡ form_of f c) where
    pub texting-room : end + length (text_as fm (own fm bytes from)) ≤ length now
    texting-room =
        omega (arith, x.putting.room, ap length (text-more f bytes from n e refl), length-append (text_as fm (own fm bytes from)) (text_all f rest (drop (from + size_as fm) bytes)))

    pub texting-more : {k : ℕ} → k ≡ size_as fm → {d : ℕ} {new : List ℕ} → Puts (text_as fm (own fm bytes from)) now end d new → Texting f bytes all old rest (from + k) d new
    texting-more {k} q p = record { putting = putting-more x.putting p (text_all f rest (drop (from + k) bytes)) (text-more f bytes from n e q) }

  pub texting-done : cs ≡ [] → now ≡ text_all f all bytes ++ drop (length (text_all f all bytes)) old
  texting-done n =
      let p = putting-done x.putting (text-none f (drop from bytes) n) in
      let whole : List ℕ = text_all f all bytes in
      let e : end ≡ length whole = omega (arith, p.ends) in
      p.is ∙ ap (λ j. whole ++ drop j old) e

pub ruleset nodings = (rules, along-ready, along-sized, read_more, read-room, noding-first, noding-room, noding-fits, noding-more, noding-done)

pub ruleset textings = (rules, along-ready, read_more, read-room, read-few, texting-first, texting-room, texting-more, texting-done)
