-- The required types stand first.
use Rattle.std.proofs.Common.{◌≡◌, ◌<◌, ℕ, List, [], ◌∷◌, ◌++◌, Some, slice_get, get_or, length, map, refl, ◌∙◌, ap, arith}
use Rattle.pc_types.specs.Shapes.{Owner, Shape}
use Rattle.pc_types.specs.Table.{Table, Place, definition_in, numbered, formed, shape_in, nobody, HasRequired}
use Rattle.pc_types.specs.Rows.{row_shape, Kept, seen, seen_owner, IsInOrder, BeginRequired, BeginProgram, IsRequiredRow}
use Rattle.pc_types.specs.Growth.{opening}
use Rattle.pc_types.specs.declared.form.TypeId.{TypeId}
use Rattle.pc_types.specs.declared.form.Form.{Form}
use Rattle.pc_types.specs.declared.form.Form.TheVariants as form
use Rattle.pc_types.specs.declared.owner.Owner.{Owner as Written}
use Rattle.pc_types.specs.declared.owner.Owner.TheVariants as owner
use Rattle.pc_types.specs.declared.types.Row.{Row}
use Rattle.pc_types.specs.declared.types.DomainRow.{DomainRow}
use Rattle.pc_types.proofs.RowsLaws.{stands-row, slice_get_below}
use Rattle.pc_types.proofs.GrowthLaws.{length-shapes}

-- the shape of a row by its form
shape-form : (owners : List Owner) (places : List Place) (known : List Shape) (r : Row) (f : Form) → r.form ≡ f → row_shape owners places known r ≡ formed places known (definition_in owners r.definition) f
shape-form owners places known r f h = ap (λ (g : Form). formed places known (definition_in owners r.definition) g) h

-- the table that begins with these rows, and has nothing else
abbrev pub opened : Row → Row → Row → Row → Kept
opened a b c d = record { rows = a ∷ b ∷ c ∷ d ∷ []; owners = owner.Keyed [] ∷ []; domains = [] }

abbrev program : List Owner
program = nobody ∷ []

four : {a a' b b' c c' d d' : Shape} → a ≡ a' → b ≡ b' → c ≡ c' → d ≡ d' → a ∷ b ∷ c ∷ d ∷ [] ≡ a' ∷ b' ∷ c' ∷ d' ∷ []
four ha hb hc hd = cc

pub seen-opened : (a b c d : Row) → IsRequiredRow form.Integer a → IsRequiredRow form.Boolean b → IsRequiredRow form.Char c → IsRequiredRow form.Nil d → seen (opened a b c d) ≡ opening
unfolding seen
seen-opened a b c d ha hb hc hd =
    let one = row_shape program [] [] a ∷ [] in
    let two = one ++ row_shape program [] one b ∷ [] in
    let three = two ++ row_shape program [] two c ∷ [] in
    ap (λ (v : List Shape). let t : Table = record { shapes = v; owners = program; domains = [] } in t)
    (four (shape-form program [] [] a form.Integer ha.is) (shape-form program [] one b form.Boolean hb.is) (shape-form program [] two c form.Char hc.is) (shape-form program [] three d form.Nil hd.is))

-- rows and the program that are pushed one by one
pub rows-pushed : (r s t u v : List Row) (a b c d : Row) → r ≡ [] → s ≡ r ++ a ∷ [] → t ≡ s ++ b ∷ [] → u ≡ t ++ c ∷ [] → v ≡ u ++ d ∷ [] → v ≡ a ∷ b ∷ c ∷ d ∷ []
rows-pushed r s t u v a b c d hr hs ht hu hv =
    let es : s ≡ a ∷ [] = hs ∙ ap (λ (w : List Row). w ++ a ∷ []) hr in
    let et : t ≡ a ∷ b ∷ [] = ht ∙ ap (λ (w : List Row). w ++ b ∷ []) es in
    let eu : u ≡ a ∷ b ∷ c ∷ [] = hu ∙ ap (λ (w : List Row). w ++ c ∷ []) et in
    hv ∙ ap (λ (w : List Row). w ++ d ∷ []) eu

pub owner-pushed : (r s : List Written) (key : List (List ℕ)) → r ≡ [] → key ≡ [] → s ≡ r ++ owner.Keyed key ∷ [] → s ≡ owner.Keyed [] ∷ []
owner-pushed r s key hr hk hs = hs ∙ ap (λ (w : List Written). w ++ owner.Keyed key ∷ []) hr ∙ ap (λ (k : List (List ℕ)). owner.Keyed k ∷ []) hk

pub seen-built : (rows : List Row) (owners : List Written) (domains : List DomainRow) (a b c d : Row) → IsRequiredRow form.Integer a → IsRequiredRow form.Boolean b → IsRequiredRow form.Char c → IsRequiredRow form.Nil d →
    rows ≡ a ∷ b ∷ c ∷ d ∷ [] → owners ≡ owner.Keyed [] ∷ [] → domains ≡ [] → seen (record { rows = rows; owners = owners; domains = domains }) ≡ opening
seen-built rows owners domains a b c d ha hb hc hd hr ho hd' =
    ap (λ (v : List Row). seen (record { rows = v; owners = owners; domains = domains })) hr
    ∙ ap (λ (v : List Written). seen (record { rows = a ∷ b ∷ c ∷ d ∷ []; owners = v; domains = domains })) ho
    ∙ ap (λ (v : List DomainRow). seen (record { rows = a ∷ b ∷ c ∷ d ∷ []; owners = owner.Keyed [] ∷ []; domains = v })) hd'
    ∙ seen-opened a b c d ha hb hc hd

-- the shape at the number of a row, by its form
shape-at : (k : Kept) (i : TypeId) (r : Row) (f : Form) → IsInOrder k → slice_get k.rows i.0 ≡ Some r → r.form ≡ f → numbered (seen k).shapes i ≡ shape_in (seen k) r.definition f
shape-at k i r f h is e = (stands-row k i r h is).shape ∙ ap (λ (g : Form). shape_in (seen k) r.definition g) e

-- what rows that begin with the required types have at the first numbers
pub record FirstRows (rows : List Row) : Type 0 where
  pub a : Row
  pub b : Row
  pub c : Row
  pub d : Row
  pub at_a : slice_get rows 0 ≡ Some a
  pub at_b : slice_get rows 1 ≡ Some b
  pub at_c : slice_get rows 2 ≡ Some c
  pub at_d : slice_get rows 3 ≡ Some d
  pub is_a : a.form ≡ form.Integer
  pub is_b : b.form ≡ form.Boolean
  pub is_c : c.form ≡ form.Char
  pub is_d : d.form ≡ form.Nil

first-rows : (rows : List Row) → BeginRequired rows → FirstRows rows
first-rows [] h = absurd h
first-rows (a ∷ []) h = absurd h
first-rows (a ∷ b ∷ []) h = absurd h
first-rows (a ∷ b ∷ c ∷ []) h = absurd h
first-rows (a ∷ b ∷ c ∷ d ∷ rows) h = record {
  a = a;
  b = b;
  c = c;
  d = d;
  at_a = refl;
  at_b = refl;
  at_c = refl;
  at_d = refl;
  is_a = h.0;
  is_b = h.1;
  is_c = h.2;
  is_d = h.3;
}

-- the required types stand where their numbers say
pub begins-required : (k : Kept) → IsInOrder k → HasRequired (seen k)
begins-required k h =
    let f = first-rows k.rows h.begins in
    record {
      integer = shape-at k (record { 0 = 0 }) f.a form.Integer h f.at_a f.is_a;
      boolean = shape-at k (record { 0 = 1 }) f.b form.Boolean h f.at_b f.is_b;
      char = shape-at k (record { 0 = 2 }) f.c form.Char h f.at_c f.is_c;
      nil = shape-at k (record { 0 = 3 }) f.d form.Nil h f.at_d f.is_d;
      there = omega (arith, slice_get_below k.rows 3 f.d f.at_d, length-shapes k);
    }

-- the first owner is the program
pub begins-program : (k : Kept) → IsInOrder k → (get_or (seen k).owners 0 nobody ≡ nobody) × (0 < length (seen k).owners)
unfolding seen
begins-program k h = by k.owners h.program
  where
    by : (os : List Written) → BeginProgram os → (get_or (map seen_owner os) 0 nobody ≡ nobody) × (0 < length (map seen_owner os))
    by [] h = absurd h
    by (o ∷ os) h = (h, omega arith)
