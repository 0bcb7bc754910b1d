-- What is kept stays where more is added.
use Rattle.std.proofs.Common.{◌≡◌, ℕ, ◌<◌, ◌≤◌, List, [], ◌∷◌, ◌++◌, Option, Some, None, get_or, length, map, option_map, min, refl, sym, ◌∙◌, ap, subst, arith, zero-add, length-append}
use Rattle.std.proofs.lemmas.List.{get_or_append_left, length-map, map-append}
use Rattle.pc_types.specs.Shapes.{Owner, Definition, Shape, PointerType, Domain}
use Rattle.pc_types.specs.Sizes.{cells, levels}
use Rattle.pc_types.specs.Table.{Place, place_of, nobody, nowhere, numbered, definition_in, formed, shape_in, PartsThere, IsReady}
use Rattle.pc_types.specs.Rows.{seen_owner, row_place, row_domain, row_shape, shapes_from, IsRow, AreRows, TargetThere, IsDomainRow, AreDomainRows, Kept, kept_owners, kept_places, kept_shapes, seen, IsInOrder, IsSized, BeginRequired, BeginProgram}
use Rattle.pc_types.specs.Growth.{GrowsBy, AddsOwner, AddsDomain}
use Rattle.pc_types.specs.declared.form.Form.{Form}
use Rattle.pc_types.specs.declared.form.Form.TheVariants as form
use Rattle.pc_types.specs.declared.form.TypeId.{TypeId}
use Rattle.pc_types.specs.declared.owner.Owner.{Owner as Written}
use Rattle.pc_types.specs.declared.types.Row.{Row}
use Rattle.pc_types.specs.declared.types.DomainRow.{DomainRow}
use Rattle.pc_types.proofs.RowsLaws.{length-shapes_from, places-domains, numbered-append}

-- owners and places that were there are still there
pub record Keeps (owners owners' : List Owner) (places places' : List Place) : Type 0 where
  pub owner_at : (i : ℕ) → i < length owners → get_or owners' i nobody ≡ get_or owners i nobody
  pub owners_more : length owners ≤ length owners'
  pub place_at : (i : ℕ) → i < length places → get_or places' i nowhere ≡ get_or places i nowhere
  pub places_more : length places ≤ length places'

formed-keeps : (owners owners' : List Owner) (places places' : List Place) (known : List Shape) (d : Definition) (f : Form) → Keeps owners owners' places places' →
    PartsThere (length known) (length places) f → formed places' known d f ≡ formed places known d f
formed-keeps owners owners' places places' known d form.Integer k h = refl
formed-keeps owners owners' places places' known d form.Boolean k h = refl
formed-keeps owners owners' places places' known d form.Char k h = refl
formed-keeps owners owners' places places' known d form.Nil k h = refl
formed-keeps owners owners' places places' known d (form.Named ns) k h = refl
formed-keeps owners owners' places places' known d (form.Subrange t a b) k h = refl
formed-keeps owners owners' places places' known d (form.Array p i e) k h = refl
formed-keeps owners owners' places places' known d (form.Record p fs) k h = refl
formed-keeps owners owners' places places' known d (form.Set p b) k h = refl
formed-keeps owners owners' places places' known d (form.Members None) k h = refl
formed-keeps owners owners' places places' known d (form.Members (Some b)) k h = refl
formed-keeps owners owners' places places' known d (form.Text m) k h = refl
formed-keeps owners owners' places places' known d (form.Pointer j) k h = ap (λ (p : Place). PointerType d p.owner p.name) (k.place_at j.0 h)

parts-keep : (n a b : ℕ) (f : Form) → a ≤ b → PartsThere n a f → PartsThere n b f
parts-keep n a b form.Integer l h = h
parts-keep n a b form.Boolean l h = h
parts-keep n a b form.Char l h = h
parts-keep n a b form.Nil l h = h
parts-keep n a b (form.Named ns) l h = h
parts-keep n a b (form.Subrange t x y) l h = h
parts-keep n a b (form.Array p i e) l h = h
parts-keep n a b (form.Record p fs) l h = h
parts-keep n a b (form.Set p t) l h = h
parts-keep n a b (form.Members None) l h = h
parts-keep n a b (form.Members (Some t)) l h = h
parts-keep n a b (form.Text m) l h = h
parts-keep n a b (form.Pointer j) l h = omega (arith, l, h)

row_shape-keeps : (owners owners' : List Owner) (places places' : List Place) (known : List Shape) (r : Row) → Keeps owners owners' places places' → IsRow owners places known r →
    row_shape owners' places' known r ≡ row_shape owners places known r
row_shape-keeps owners owners' places places' known r k h =
    let d : definition_in owners' r.definition ≡ definition_in owners r.definition =
    ap (λ (o : Owner). record { owner = o; name = r.definition.name; number = r.definition.number; inside = r.definition.inside }) (k.owner_at r.definition.owner.0 h.owner) in
    ap (λ (e : Definition). formed places' known e r.form) d ∙ formed-keeps owners owners' places places' known (definition_in owners r.definition) r.form k h.parts

row-keeps : (owners owners' : List Owner) (places places' : List Place) (known : List Shape) (r : Row) → Keeps owners owners' places places' → IsRow owners places known r → IsRow owners' places' known r
row-keeps owners owners' places places' known r k h =
    let s = row_shape-keeps owners owners' places places' known r k h in
    record {
      owner = omega (arith, h.owner, k.owners_more);
      parts = parts-keep (length known) (length places) (length places') r.form k.places_more h.parts;
      cells = h.cells ∙ ap (λ (t : Shape). min (cells t) 1000001) (sym s);
      levels = h.levels ∙ ap (λ (t : Shape). min (levels t) 257) (sym s);
    }

pub shapes_from-keeps : (owners owners' : List Owner) (places places' : List Place) (known : List Shape) (rows : List Row) → Keeps owners owners' places places' → AreRows owners places known rows →
    shapes_from owners' places' known rows ≡ shapes_from owners places known rows
shapes_from-keeps owners owners' places places' known [] k h = refl
shapes_from-keeps owners owners' places places' known (r ∷ rows) k h =
    ap (λ (s : Shape). shapes_from owners' places' (known ++ s ∷ []) rows) (row_shape-keeps owners owners' places places' known r k h.0)
    ∙ shapes_from-keeps owners owners' places places' (known ++ row_shape owners places known r ∷ []) rows k h.1

pub rows-keep : (owners owners' : List Owner) (places places' : List Place) (known : List Shape) (rows : List Row) → Keeps owners owners' places places' → AreRows owners places known rows →
    AreRows owners' places' known rows
rows-keep owners owners' places places' known [] k h = tt
rows-keep owners owners' places places' known (r ∷ rows) k h = (
  row-keeps owners owners' places places' known r k h.0,
  subst (λ (s : Shape). AreRows owners' places' (known ++ s ∷ []) rows) (sym (row_shape-keeps owners owners' places places' known r k h.0))
      (rows-keep owners owners' places places' (known ++ row_shape owners places known r ∷ []) rows k h.1),
)

-- one more row
pub shapes_from-push : (owners : List Owner) (places : List Place) (known : List Shape) (rows : List Row) (r : Row) →
    shapes_from owners places known (rows ++ r ∷ []) ≡ shapes_from owners places known rows ++ row_shape owners places (shapes_from owners places known rows) r ∷ []
shapes_from-push owners places known [] r = refl
shapes_from-push owners places known (q ∷ rows) r = shapes_from-push owners places (known ++ row_shape owners places known q ∷ []) rows r

pub rows-push : (owners : List Owner) (places : List Place) (known : List Shape) (rows : List Row) (r : Row) → AreRows owners places known rows →
    IsRow owners places (shapes_from owners places known rows) r → AreRows owners places known (rows ++ r ∷ [])
rows-push owners places known [] r h i = (i, tt)
rows-push owners places known (q ∷ rows) r h i = (h.0, rows-push owners places (known ++ row_shape owners places known q ∷ []) rows r h.1 i)

target-more : (a b : ℕ) (t : Option ℕ) → a ≤ b → TargetThere a t → TargetThere b t
target-more a b None l h = tt
target-more a b (Some i) l h = omega (arith, l, h)

pub domains-more : (owners owners' types types' : ℕ) (ds : List DomainRow) → owners ≤ owners' → types ≤ types' → AreDomainRows owners types ds → AreDomainRows owners' types' ds
domains-more owners owners' types types' [] l m h = tt
domains-more owners owners' types types' (d ∷ ds) l m h = (
  record { owner = omega (arith, l, h.0.owner); target = target-more types types' (option_map (λ i. i.0) d.of) m h.0.target },
  domains-more owners owners' types types' ds l m h.1,
)

pub domains-push : (owners types : ℕ) (ds : List DomainRow) (d : DomainRow) → AreDomainRows owners types ds → IsDomainRow owners types d → AreDomainRows owners types (ds ++ d ∷ [])
domains-push owners types [] d h i = (i, tt)
domains-push owners types (e ∷ ds) d h i = (h.0, domains-push owners types ds d h.1 i)

-- domains look the same where there are more shapes and owners
target-same : (known more : List Shape) (n : ℕ) (t : Option TypeId) → n ≡ length known → TargetThere n (option_map (λ i. i.0) t) → option_map (numbered (known ++ more)) t ≡ option_map (numbered known) t
target-same known more n None e h = refl
target-same known more n (Some i) e h = ap Some (numbered-append known more i (omega (arith, e, h)))

pub row_domain-more : (known more : List Shape) (owners : List Owner) (types : ℕ) (ds : List DomainRow) → types ≡ length known → AreDomainRows (length owners) types ds →
    map (row_domain owners (known ++ more)) ds ≡ map (row_domain owners known) ds
row_domain-more known more owners types [] e h = refl
row_domain-more known more owners types (d ∷ ds) e h =
    ap (λ (t : Option Shape). record { owner = get_or owners d.owner.0 nobody; name = d.name; shape = t } ∷ map (row_domain owners (known ++ more)) ds) (target-same known more types d.of e h.0.target)
    ∙ ap (λ (rest : List Domain). row_domain owners known d ∷ rest) (row_domain-more known more owners types ds e h.1)

-- what a ready row owes
ready-row : (k : Kept) (r : Row) → IsReady (seen k) r.form r.definition → IsSized (seen k) r → IsRow (kept_owners k) (kept_places k) (kept_shapes k) r
unfolding seen
ready-row k r h s =
    let places : map place_of (map (row_domain (kept_owners k) (kept_shapes k)) k.domains) ≡ kept_places k = places-domains (kept_owners k) (kept_shapes k) k.domains in
    let shape : shape_in (seen k) r.definition r.form ≡ row_shape (kept_owners k) (kept_places k) (kept_shapes k) r =
    ap (λ (ps : List Place). row_shape (kept_owners k) ps (kept_shapes k) r) places in
    record {
      owner = h.owner;
      parts = subst (λ (n : ℕ). PartsThere (length (kept_shapes k)) n r.form) (length-map k.domains (row_domain (kept_owners k) (kept_shapes k)) ∙ sym (length-map k.domains (row_place (kept_owners k)))) h.parts;
      cells = s.cells ∙ ap (λ (t : Shape). min (cells t) 1000001) shape;
      levels = s.levels ∙ ap (λ (t : Shape). min (levels t) 257) shape;
    }

-- what is kept with one more row
abbrev pub with_row : Kept → Row → Kept
with_row k r = record { rows = k.rows ++ r ∷ []; owners = k.owners; domains = k.domains }

-- the first rows stay the required types
begin-push : (rows : List Row) (r : Row) → BeginRequired rows → BeginRequired (rows ++ r ∷ [])
begin-push [] r h = absurd h
begin-push (a ∷ []) r h = absurd h
begin-push (a ∷ b ∷ []) r h = absurd h
begin-push (a ∷ b ∷ c ∷ []) r h = absurd h
begin-push (a ∷ b ∷ c ∷ d ∷ rows) r h = h

pub in_order-push : (k : Kept) (r : Row) → IsInOrder k → IsReady (seen k) r.form r.definition → IsSized (seen k) r → IsInOrder (with_row k r)
in_order-push k r h a s = record {
  rows_are = rows-push (kept_owners k) (kept_places k) [] k.rows r h.rows_are (ready-row k r a s);
  domains_are = domains-more (length k.owners) (length k.owners) (length k.rows) (length (k.rows ++ r ∷ [])) k.domains (omega arith) (omega (arith, length-append k.rows (r ∷ []))) h.domains_are;
  begins = begin-push k.rows r h.begins;
  program = h.program;
}

pub seen-push : (k : Kept) (r : Row) → IsInOrder k → GrowsBy (seen k) (seen (with_row k r)) (shape_in (seen k) r.definition r.form)
unfolding seen
seen-push k r h =
    let s = row_shape (kept_owners k) (kept_places k) (kept_shapes k) r in
    let pushed : kept_shapes (with_row k r) ≡ kept_shapes k ++ s ∷ [] = shapes_from-push (kept_owners k) (kept_places k) [] k.rows r in
    let places : map place_of (map (row_domain (kept_owners k) (kept_shapes k)) k.domains) ≡ kept_places k = places-domains (kept_owners k) (kept_shapes k) k.domains in
    record {
      shapes = pushed ∙ ap (λ (ps : List Place). kept_shapes k ++ row_shape (kept_owners k) ps (kept_shapes k) r ∷ []) (sym places);
      owners = refl;
      domains = ap (λ (v : List Shape). map (row_domain (kept_owners k) v) k.domains) pushed
          ∙ row_domain-more (kept_shapes k) (s ∷ []) (kept_owners k) (length k.rows) k.domains (sym (length-shapes_from (kept_owners k) (kept_places k) [] k.rows ∙ zero-add (length k.rows)))
          (subst (λ (n : ℕ). AreDomainRows n (length k.rows) k.domains) (sym (length-map k.owners seen_owner)) h.domains_are);
    }

abbrev pub with_owner : Kept → Written → Kept
with_owner k o = record { rows = k.rows; owners = k.owners ++ o ∷ []; domains = k.domains }

place-owners : (owners owners' : List Owner) (types : ℕ) (ds : List DomainRow) → ((i : ℕ) → i < length owners → get_or owners' i nobody ≡ get_or owners i nobody) → AreDomainRows (length owners) types ds →
    map (row_place owners') ds ≡ map (row_place owners) ds
place-owners owners owners' types [] k h = refl
place-owners owners owners' types (d ∷ ds) k h =
    ap (λ (o : Owner). record { owner = o; name = d.name } ∷ map (row_place owners') ds) (k d.owner.0 h.0.owner)
    ∙ ap (λ (ps : List Place). row_place owners d ∷ ps) (place-owners owners owners' types ds k h.1)

domain-owners : (owners owners' : List Owner) (shapes : List Shape) (types : ℕ) (ds : List DomainRow) → ((i : ℕ) → i < length owners → get_or owners' i nobody ≡ get_or owners i nobody) → AreDomainRows (length owners) types ds →
    map (row_domain owners' shapes) ds ≡ map (row_domain owners shapes) ds
domain-owners owners owners' shapes types [] k h = refl
domain-owners owners owners' shapes types (d ∷ ds) k h =
    ap (λ (o : Owner). record { owner = o; name = d.name; shape = option_map (numbered shapes) d.of } ∷ map (row_domain owners' shapes) ds) (k d.owner.0 h.0.owner)
    ∙ ap (λ (rest : List Domain). row_domain owners shapes d ∷ rest) (domain-owners owners owners' shapes types ds k h.1)

-- the owners with one more
owners-pushed : (k : Kept) (o : Written) → kept_owners (with_owner k o) ≡ kept_owners k ++ seen_owner o ∷ []
owners-pushed k o = map-append seen_owner k.owners (o ∷ [])

owners-kept : (k : Kept) (o : Written) (i : ℕ) → i < length (kept_owners k) → get_or (kept_owners (with_owner k o)) i nobody ≡ get_or (kept_owners k) i nobody
owners-kept k o i h = ap (λ (os : List Owner). get_or os i nobody) (owners-pushed k o) ∙ get_or_append_left (kept_owners k) (seen_owner o ∷ []) nobody i h

seen-domains : (k : Kept) → IsInOrder k → AreDomainRows (length (kept_owners k)) (length k.rows) k.domains
seen-domains k h = subst (λ (n : ℕ). AreDomainRows n (length k.rows) k.domains) (sym (length-map k.owners seen_owner)) h.domains_are

places-kept : (k : Kept) (o : Written) → IsInOrder k → kept_places (with_owner k o) ≡ kept_places k
places-kept k o h = place-owners (kept_owners k) (kept_owners (with_owner k o)) (length k.rows) k.domains (owners-kept k o) (seen-domains k h)

owner-keeps : (k : Kept) (o : Written) → IsInOrder k → Keeps (kept_owners k) (kept_owners (with_owner k o)) (kept_places k) (kept_places (with_owner k o))
owner-keeps k o h =
    let same = places-kept k o h in
    record {
      owner_at = owners-kept k o;
      owners_more = omega (arith, ap (λ (os : List Owner). length os) (owners-pushed k o), length-append (kept_owners k) (seen_owner o ∷ []));
      place_at = λ i _. ap (λ (ps : List Place). get_or ps i nowhere) same;
      places_more = omega (arith, ap (λ (ps : List Place). length ps) same);
    }

-- the program stays the first owner
begin-owner : (owners : List Written) (o : Written) → BeginProgram owners → BeginProgram (owners ++ o ∷ [])
begin-owner [] o h = absurd h
begin-owner (p ∷ owners) o h = h

pub in_order-owner : (k : Kept) (o : Written) → IsInOrder k → IsInOrder (with_owner k o)
in_order-owner k o h = record {
  rows_are = rows-keep (kept_owners k) (kept_owners (with_owner k o)) (kept_places k) (kept_places (with_owner k o)) [] k.rows (owner-keeps k o h) h.rows_are;
  domains_are = domains-more (length k.owners) (length (k.owners ++ o ∷ [])) (length k.rows) (length k.rows) k.domains (omega (arith, length-append k.owners (o ∷ []))) (omega arith) h.domains_are;
  begins = h.begins;
  program = begin-owner k.owners o h.program;
}

pub seen-owner : (k : Kept) (o : Written) → IsInOrder k → AddsOwner (seen k) (seen (with_owner k o)) (seen_owner o)
unfolding seen
seen-owner k o h =
    let same : kept_shapes (with_owner k o) ≡ kept_shapes k =
    shapes_from-keeps (kept_owners k) (kept_owners (with_owner k o)) (kept_places k) (kept_places (with_owner k o)) [] k.rows (owner-keeps k o h) h.rows_are in
    record {
      shapes = same;
      owners = owners-pushed k o;
      domains = ap (λ (v : List Shape). map (row_domain (kept_owners (with_owner k o)) v) k.domains) same
          ∙ domain-owners (kept_owners k) (kept_owners (with_owner k o)) (kept_shapes k) (length k.rows) k.domains (owners-kept k o) (seen-domains k h);
    }

abbrev pub with_domain : Kept → DomainRow → Kept
with_domain k d = record { rows = k.rows; owners = k.owners; domains = k.domains ++ d ∷ [] }

places-pushed : (k : Kept) (d : DomainRow) → kept_places (with_domain k d) ≡ kept_places k ++ row_place (kept_owners k) d ∷ []
places-pushed k d = map-append (row_place (kept_owners k)) k.domains (d ∷ [])

domain-keeps : (k : Kept) (d : DomainRow) → Keeps (kept_owners k) (kept_owners k) (kept_places k) (kept_places (with_domain k d))
domain-keeps k d =
    let more = places-pushed k d in
    record {
      owner_at = λ i _. refl;
      owners_more = omega arith;
      place_at = λ i h. ap (λ (ps : List Place). get_or ps i nowhere) more ∙ get_or_append_left (kept_places k) (row_place (kept_owners k) d ∷ []) nowhere i h;
      places_more = omega (arith, ap (λ (ps : List Place). length ps) more, length-append (kept_places k) (row_place (kept_owners k) d ∷ []));
    }

pub in_order-domain : (k : Kept) (d : DomainRow) → IsInOrder k → IsDomainRow (length k.owners) (length k.rows) d → IsInOrder (with_domain k d)
in_order-domain k d h i = record {
  rows_are = rows-keep (kept_owners k) (kept_owners k) (kept_places k) (kept_places (with_domain k d)) [] k.rows (domain-keeps k d) h.rows_are;
  domains_are = domains-push (length k.owners) (length k.rows) k.domains d h.domains_are i;
  begins = h.begins;
  program = h.program;
}

pub seen-domain : (k : Kept) (d : DomainRow) → IsInOrder k → AddsDomain (seen k) (seen (with_domain k d)) (row_domain (seen k).owners (seen k).shapes d)
unfolding seen
seen-domain k d h =
    let same : kept_shapes (with_domain k d) ≡ kept_shapes k =
    shapes_from-keeps (kept_owners k) (kept_owners k) (kept_places k) (kept_places (with_domain k d)) [] k.rows (domain-keeps k d) h.rows_are in
    record {
      shapes = same;
      owners = refl;
      domains = ap (λ (v : List Shape). map (row_domain (kept_owners k) v) (k.domains ++ d ∷ [])) same
          ∙ map-append (row_domain (kept_owners k) (kept_shapes k)) k.domains (d ∷ []);
    }

pub length-shapes : (k : Kept) → length (seen k).shapes ≡ length k.rows
unfolding seen
length-shapes k = length-shapes_from (kept_owners k) (kept_places k) [] k.rows ∙ zero-add (length k.rows)

pub length-owners : (k : Kept) → length (seen k).owners ≡ length k.owners
unfolding seen
length-owners k = length-map k.owners seen_owner

pub length-domains : (k : Kept) → length (seen k).domains ≡ length k.domains
unfolding seen
length-domains k = length-map k.domains (row_domain (kept_owners k) (kept_shapes k))

pub domain-there : (k : Kept) (d : DomainRow) → IsDomainRow (length (seen k).owners) (length (seen k).shapes) d → IsDomainRow (length k.owners) (length k.rows) d
domain-there k d h =
    subst (λ (n : ℕ). IsDomainRow n (length k.rows) d) (length-owners k) (subst (λ (n : ℕ). IsDomainRow (length (seen k).owners) n d) (length-shapes k) h)
