-- What the calls of body.rt require, and what parts come to; its returns are closed by computing. Assumes nothing.
use borrow.Enum.Refused.{opened}
use mathlib.Core.Path.{◌≡◌, refl, ap, sym, subst, ◌∙◌, fun_ext}
use mathlib.Core.Bool.{Bool, true, false}
use mathlib.Core.List.{List, [], ◌∷◌}
use Prim.Native.Nat.{ℕ, zero, suc, ◌+◌, ◌-◌, ◌*◌, ◌≤◌, ◌<◌}
use native.Mathlib.Omega.{arith}
use lib.Dec.{eqb, lit<}
use lib.ListN.{length}
use borrow.Author.Rules.{rules}
use borrow.Author.Tests.{ne_eqb}
use types.Run.{OneOf, miss}
use denote.Enum.Declared.{tag_of}
use Rattle.definition.specs.contracts.records.Declaration.{the_type}
use Rattle.definition.specs.declared.records.Constant.{Constant}
use Rattle.definition.specs.declared.records.Declaration.{Declaration}
use Rattle.definition.specs.declared.records.Declaration.TheVariants as decl
use Rattle.definition.specs.declared.records.Place.{Place}
use Rattle.definition.specs.Base.{choose, inline}
use Rattle.definition.specs.Layout as Layout
use Rattle.definition.specs.Layout.{word, count, elements, variables, most_records, limits_of_records}
use Rattle.definition.specs.Records.{declaration_at, named_type}
use Rattle.definition.specs.Scalar.{as_tree}
use Rattle.definition.specs.Tree.{Tree, Trees, constant_tree, null_tree, flatten}
use Rattle.definition.specs.Ask.{Result, Ask, ◌>>=◌, bind, nothing, and_more}
use Rattle.definition.specs.Places.{place_of}
use Rattle.definition.specs.Uses.{named_use, declaration_uses}
use Rattle.definition.specs.Parts.{structured, field, is_instance}
use Rattle.definition.specs.Defaults as Defaults
use Rattle.definition.specs.Starting.{body_by, body, declaration, variable_field, elements_from, instance_from}
use Rattle.laws.specs.Steps.{peek-give, peek-nothing}
use Rattle.laws.specs.Accepted.{Accepted, count_most, type-points, link-in}
use Rattle.laws.specs.Every.{Each}
use Rattle.laws.specs.Links.{Link, each-name, initializer-apart, uses-apart}
use Rattle.laws.specs.Used.{IsType, initializer-inside, uses-inside, start-inside, leads-inside}
use Rattle.laws.specs.Pointed.{DeclarationPointed, declaration-pointed}
use Rattle.places.specs.Inside.{PlaceIn, of-in}
use Rattle.places.proofs.block.Laws.{type-fits}
use Rattle.std.specs.Prelude.{Some}
use Rattle.build.specs.Built.{Built, Builds}
use Rattle.build.specs.Leaves.{PutsLeaf}
use Rattle.build.specs.Parts.{implicit_levels}
use Rattle.build.proofs.Levels.{levels-some}
use Rattle.build.proofs.defaults.Laws.{same}
use Rattle.initial.specs.Stated.{ArrayIn, AliasIn, SpecIn, ConstantIn, StartIn, element_start, variable_start, part_start, is_part, part_ask, parts_from, PartsIn}
use Rattle.initial.specs.Rooms.{entry_levels, parts_levels, body_levels_by, body_levels}
use Rattle.initial.proofs.start.Laws.{constants-in, max-left, max-right}

-- ---- parts of a structure and of a function block
part-of-element : (f : List ℕ) (place : Place) (e size : ℕ) → part_ask f place elements e size ≡ element_start f place e >>= field size (word f elements e 0)
unfolding part_ask part_start
part-of-element f place e size = refl

then-none : (g : (t : Tree) → Ask (Result Trees)) → (nothing >>= g) ≡ nothing
unfolding ◌>>=◌ bind nothing
then-none g = refl

part-of-variable : (f : List ℕ) (place : Place) (v size : ℕ) → part_ask f place variables v size ≡ variable_field f v size
unfolding part_ask part_start Defaults.variable_field variable_start
part-of-variable f place v size = go (eqb (word f variables v 0) 0)
  where
    go : (b : Bool) → (choose b (λ u. nothing) (λ u. declaration f v) >>= field size (word f variables v 0)) ≡ choose b (λ u. nothing) (λ u. declaration f v >>= field size (word f variables v 0))
    go true = then-none (field size (word f variables v 0))
    go false = refl

of-elements : (f : List ℕ) (place : Place) (e k made size : ℕ) → parts_from f place elements e k made size ≡ elements_from f place e k made size
unfolding parts_from Defaults.elements_from is_part element_start
of-elements f place e zero made size = refl
of-elements f place e (suc k) made size =
    ap (λ (m : Ask (Result Trees)). and_more made size m (parts_from f place elements (suc e) k)) (part-of-element f place e size)
    ∙ ap (and_more made size (element_start f place e >>= field size (word f elements e 0))) (fun_ext (λ m. fun_ext (λ s. of-elements f place (suc e) k m s)))

of-variables : (f : List ℕ) (place : Place) (v k made size : ℕ) → parts_from f place variables v k made size ≡ instance_from f v k made size
unfolding parts_from Defaults.instance_from is_part
of-variables f place v zero made size = refl
of-variables f place v (suc k) made size = go (is_instance (word f variables v 1)) (λ m s. of-variables f place (suc v) k m s)
  where
    go : (b : Bool) → ((m s : ℕ) → parts_from f place variables (suc v) k m s ≡ instance_from f (suc v) k m s)
        → choose b (λ u. and_more made size (part_ask f place variables v size) (parts_from f place variables (suc v) k)) (λ u. parts_from f place variables (suc v) k made size)
        ≡ choose b (λ u. and_more made size (variable_field f v size) (instance_from f (suc v) k)) (λ u. instance_from f (suc v) k made size)
    go true ih =
        ap (λ (m : Ask (Result Trees)). and_more made size m (parts_from f place variables (suc v) k)) (part-of-variable f place v size)
        ∙ ap (and_more made size (variable_field f v size)) (fun_ext (λ m. fun_ext (λ s. ih m s)))
    go false ih = ih made size

pub structure-is : (f : List ℕ) (place : Place) (first many : ℕ) → structured (elements_from f place first many) ≡ structured (parts_from f place elements first many)
structure-is f place first many = ap structured (fun_ext (λ m. fun_ext (λ s. sym (of-elements f place first many m s))))

pub block-is : (f : List ℕ) (place : Place) (first many : ℕ) → structured (instance_from f first many) ≡ structured (parts_from f place variables first many)
block-is f place first many = ap structured (fun_ext (λ m. fun_ext (λ s. sym (of-variables f place first many m s))))

-- ---- room
module _ (f : List ℕ) (place : Place) (at n : ℕ) {d : Declaration} (h : at + body_levels_by f place d * 12288 ≤ n) where
  at-view : {e : Declaration} → d ≡ e → at + body_levels_by f place e * 12288 ≤ n
  at-view e = subst (λ (x : Declaration). at + body_levels_by f place x * 12288 ≤ n) e h

  pub subrange-room : {name start : ℕ} → d ≡ decl.Subrange name start → at + implicit_levels f place * 12288 ≤ n
  unfolding body_levels_by
  subrange-room e = at-view e

  module _ {name first many : ℕ} (e : d ≡ decl.Array name first many) where
    pub array-room : at + implicit_levels f place * 12288 ≤ n
    unfolding body_levels_by
    array-room = max-left at (implicit_levels f place) (entry_levels f first many place) n (at-view e)

    pub entries-room : at + entry_levels f first many place * 12288 ≤ n
    unfolding body_levels_by
    entries-room = max-right at (implicit_levels f place) (entry_levels f first many place) n (at-view e)

  pub structure-room : {first many : ℕ} → d ≡ decl.Structure first many → at + parts_levels f place 7 first many * 12288 ≤ n
  unfolding body_levels_by
  structure-room e = at-view e

  pub block_room : {first many : ℕ} → d ≡ decl.FunctionBlock first many → at + parts_levels f place 8 first many * 12288 ≤ n
  unfolding body_levels_by
  block_room e = at-view e

  pub reference-room : {name : ℕ} → d ≡ decl.Reference name → at + 6 ≤ n
  unfolding body_levels_by
  reference-room e = let k = at-view e in omega (arith, levels-some f place)

-- ---- a reference starts as null
module _ (f : List ℕ) (t : ℕ) (place : Place) {d : Declaration} {name : ℕ} (e : d ≡ decl.Reference name) {index store : List ℕ} {at : ℕ} {old : List ℕ} {r : Built} {new : List ℕ} where
  pub body-null : {c : Constant} → constant_tree c ≡ null_tree → at + 6 ≤ length old → PutsLeaf (Some c) at old r new → Builds f index store flatten (body_by f t place d) at old r new
  unfolding Defaults.body_by as_tree
  body-null h b x = rw e (record { gives = λ M y. rw (peek-give M null_tree, ← h) (x.gives b); kept = x.kept })

-- every declaration that leaves its type at the implicit default
abbrev pub implicitly : List ℕ
implicitly = 7 ∷ 8 ∷ []

module _ (f : List ℕ) (place : Place) where
  pub implicit-room : (at n : ℕ) (d : Declaration) → OneOf implicitly (tag_of the_type d) → at + body_levels_by f place d * 12288 ≤ n → at + implicit_levels f place * 12288 ≤ n
  unfolding body_levels_by
  implicit-room at n decl.Nothing k h = h
  implicit-room at n (decl.Simple start) k h = absurd (miss implicitly 1 tt k)
  implicit-room at n (decl.Subrange name start) k h = h
  implicit-room at n (decl.String start) k h = h
  implicit-room at n (decl.Array name first many) k h = absurd (miss implicitly 4 tt k)
  implicit-room at n (decl.Structure first many) k h = absurd (miss implicitly 5 tt k)
  implicit-room at n (decl.Reference name) k h = h
  implicit-room at n (decl.Enumeration name) k h = h
  implicit-room at n (decl.LateBound name) k h = h
  implicit-room at n (decl.FunctionBlock first many) k h = absurd (miss implicitly 9 tt k)
  implicit-room at n decl.Unknown k h = h

-- ---- what the file has
module _ {f : List ℕ} (a : Accepted f) {t : ℕ} (l : IsType f t) where
  pub base-linked : {base : ℕ} → base ≡ word f Layout.types t 1 → Link (IsType f) base
  base-linked q = rw q (link-in f Layout.types (word f Layout.types t 1) (type-points f a t l).alias)

  module _ {d : Declaration} (q : d ≡ declaration_at f t) where
    uses-of : {e : Declaration} → d ≡ e → Each (IsType f) (declaration_uses f t e)
    uses-of e = subst (λ (x : Declaration). Each (IsType f) (declaration_uses f t x)) (sym q ∙ e) (uses-apart (IsType f) f t (uses-inside f a t l)).2

    points : {e : Declaration} → d ≡ e → DeclarationPointed f e
    points e = subst (DeclarationPointed f) (sym q ∙ e) (declaration-pointed f a t l)

    spec-of : (name : ℕ) → Each (IsType f) (named_use name) → SpecIn f name
    spec-of name u = record { linked = λ n. each-name (IsType f) name (ne_eqb name inline n) u }

    pub subrange-spec : {name start : ℕ} → d ≡ decl.Subrange name start → SpecIn f name
    unfolding declaration_uses
    subrange-spec {name} e = spec-of name (uses-of e)

    pub subrange-value : {name start : ℕ} → d ≡ decl.Subrange name start → ConstantIn f start
    subrange-value {start = start} e = constants-in f 1 start (points e)

    pub string-value : {start : ℕ} → d ≡ decl.String start → ConstantIn f start
    string-value {start} e = constants-in f 8 start (points e)

    module _ {name first many : ℕ} (e : d ≡ decl.Array name first many) where
      pub array-spec : SpecIn f name
      unfolding declaration_uses
      array-spec = spec-of name (uses-of e)

      pub array-in : ArrayIn f first many
      array-in = let p = points e in record { inside = p.0; entries = p.1 }

    pub structure-in : {first many : ℕ} → d ≡ decl.Structure first many → PartsIn f 7 first many
    unfolding most_records limits_of_records
    structure-in {first} {many} e =
        let p : first + many ≤ count f elements = points e in
        record {
          known = lit< tt;
          few = omega (arith, count_most f a elements (lit< tt));
          each = λ k g h. record { element = λ z. omega arith; variable = λ z. absurd (z refl) };
        }

    pub block_in : {first many : ℕ} → d ≡ decl.FunctionBlock first many → PartsIn f 8 first many
    unfolding most_records limits_of_records
    block_in {first} {many} e =
        let p : first + many ≤ count f variables = points e in
        record {
          known = lit< tt;
          few = omega (arith, count_most f a variables (lit< tt));
          each = λ k g h. record { element = λ z. absurd (omega arith); variable = λ z. omega arith };
        }

    pub start-in : {start : ℕ} → d ≡ decl.Simple start → StartIn f start
    start-in {start} e = record { alias = λ n. go n }
      where
        go : (start ≡ 0 → ⊥) → AliasIn f (start - 1)
        go n =
            let z : start ≡ suc (start - 1) = omega (arith, n) in
            let s : declaration_at f t ≡ decl.Simple (suc (start - 1)) = sym q ∙ e ∙ ap decl.Simple z in
            let i = start-inside f a t (start - 1) l s in
            record {
              inside = i;
              spec = spec-of (named_type f (start - 1)) (initializer-apart (IsType f) f (start - 1) (initializer-inside f a (start - 1) i)).0;
              named = λ k. (leads-inside f a).names t (start - 1) l s k;
            }

-- ---- `body`
module _ (f : List ℕ) (t : ℕ) {place : Place} (p : place ≡ place_of f t) where
  pub own-place : Accepted f → IsType f t → PlaceIn f place
  own-place a l = rw p (of-in f a t l)

  module _ {d : Declaration} (q : d ≡ declaration_at f t) where
    pub own_room : (at n : ℕ) → at + body_levels f t * 12288 ≤ n → at + body_levels_by f place d * 12288 ≤ n
    unfolding body_levels
    own_room at n h = rw (p, q) h

    pub own_body : {index store : List ℕ} {at : ℕ} {old : List ℕ} {r : Built} {new : List ℕ} → Builds f index store flatten (body_by f t place d) at old r new → Builds f index store flatten (body f t) at old r new
    unfolding Defaults.body
    own_body h = same (body_by f t place d) (body f t) (rw (p, q)) h

pub ruleset laws = (rules, opened, peek-nothing, structure-is, block-is, base-linked, string-value, start-in, type-fits)

pub ruleset asked = (rules, subrange-room, array-room, entries-room, structure-room, block_room, reference-room, subrange-spec, subrange-value, array-spec, array-in, structure-in, block_in, own-place, own_room, type-fits)
