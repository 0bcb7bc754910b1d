-- The tables, as the declarations of a block left them, stand for its statement part: lemmas.
use Rattle.std.proofs.Common.{◌≡◌, ◌<◌, ℕ, false, List, [], length, get_or, refl, ap, sym, ◌∙◌, subst}
use Rattle.std.specs.Option.{option_map_or}
use Rattle.pc_types.specs.Rows.{seen}
use Rattle.pc_types.specs.Table.{nobody}
use Rattle.pc_types.specs.declared.operand.Operand.{Operand}
use Rattle.pc_types.specs.declared.types.Types.{Types}
use Rattle.pc_names.specs.Chains.{chain_of}
use Rattle.pc_names.specs.Finding.{FindsAs, FindsAlong}
use Rattle.pc_names.specs.FindingLaws.{FindsAlong-find}
use Rattle.pc_names.specs.Numbers.{AreDistinct, number_of}
use Rattle.pc_names.specs.Table as names
use Rattle.pc_names.specs.Table.{found_named}
use Rattle.pc_rules.specs.Meanings.{Found, Local, find}
use Rattle.pc_rules.specs.Outsides.{signature_named, outside_of}
use Rattle.pc_rules.specs.RequiredMeanings.{required_or_missing}
use Rattle.pc_rules.specs.Routines.{Routine, bare}
use Rattle.pc_sightings.specs.Opened.{ShowsOpened}
use Rattle.pc_sightings.specs.TouchedLog.{AreApart, stands_since}
use Rattle.pc_facts.specs.Known.{Known}
use Rattle.pc_facts.specs.declared.sighting.Declared.{Declared}
use Rattle.pc_facts.specs.declared.sighting.Signature.{Signature}
use Rattle.pc_access_rules.specs.Pointers.{AreTold}
use Rattle.pc_access_rules.specs.Selves.{ShowsSelf}
use Rattle.pc_places.specs.Places as places
use Rattle.pc_places.specs.Places.{IsPlace, IsNamed}
use Rattle.pc_places.specs.Scenes.{ShowsUnsigned}
use Rattle.pc_places.specs.SceneLaws.{ShowsUnsigned-with_signature}
use Rattle.pc_places.specs.declared.tables.Tables.{Tables}
use Rattle.pc_bodies.specs.Resolved.{ShowsDeclaration}
use Rattle.pc_standing.specs.Signed.{signed, IsSigned, OwnsRoutines}
use Rattle.pc_standing.specs.SignedLaws.{signed-twice, FindsAlong-signed}
use Rattle.pc_standing.specs.OutsideLaws.{find-signed}
use Rattle.pc_standing.specs.Standing.{BodyLaw}

-- what the tables find at a place of the block, parameters and results of routines included
pub finds-at : (t : Tables) (block owner : ℕ) (all : List Routine) (r : Routine) (l : Local) → IsPlace t block owner (outside_of all r) l → OwnsRoutines r.owner l.known →
    IsNamed t.names t.declarations.items → IsSigned t.names (places.known t) t.declarations.items (signature_named all) (chain_of t.names.chains block) →
    FindsAlong (ShowsDeclaration (places.known t) t.declarations.items) required_or_missing t.names (chain_of t.names.chains block) (find (outside_of all r) l)
finds-at t block owner all r l at owns named signs =
    let k = places.known t in
    let ds = t.declarations.items in
    let sig = signature_named all in
    let means = find (outside_of all r) l in
    let S = ShowsUnsigned k ds in
    let unsigned : FindsAlong S required_or_missing t.names (chain_of t.names.chains block) means =
    subst (λ (bs : List ℕ). FindsAlong S required_or_missing t.names bs means) (sym at.chain)
    (FindsAlong-find S S required_or_missing t.names block at.outer (outside_of all r) l (λ n d m. ShowsUnsigned-with_signature k ds (outside_of all r) n d m) at.own at.around at.closed) in
    let along = FindsAlong-signed t.names k ds sig (chain_of t.names.chains block) means refl named signs unsigned in
    λ n.
    let bare_means = find (bare r.means) l n in
    let is : means n ≡ signed sig n bare_means = find-signed all r l at.closed owns n in
    let same : signed sig n (means n) ≡ means n = ap (signed sig n) is ∙ signed-twice sig n bare_means ∙ sym is in
    subst (λ (f : Found). FindsAs (ShowsDeclaration k ds) (required_or_missing n) (found_named t.names (chain_of t.names.chains block) n) f) same (along n)

-- the tables that a statement part has
abbrev Parts : Type 0
Parts = Types × names.Table × List Declared × List Signature × List (List ℕ)

abbrev known_of : Parts → Known
known_of p = record { table = seen p.0; names = p.1.texts; texts = p.4; signatures = p.3 }

-- the main law
pub stands-for-body : BodyLaw
stands-for-body targets t all r l b g has at owns named signs own apart told good inside =
    let old : Parts = (t.types, t.names, t.declarations.items, t.signatures.items, t.texts.items) in
    let new : Parts = (b.types.now, b.names.now, b.declarations.now, b.signatures.now, g.texts.items) in
    let same : old ≡ new = λ i. (sym has.types i, sym has.names i, sym has.declarations i, sym has.signatures i, sym has.texts i) in
    let means = find (outside_of all r) l in
    record {
      outer = means;
      fields = [];
      along = subst (λ (p : Parts). FindsAlong (ShowsDeclaration (known_of p) p.2) required_or_missing p.1 (chain_of p.1.chains b.block.0) means) same
          (finds-at t b.block.0 b.owner.0 all r l at owns named signs);
      opens = subst (λ (os : List Operand). ShowsOpened (seen b.types.now) os []) (sym has.opened) refl;
      means = λ n. refl;
      owner = subst (λ (p : Parts). get_or (known_of p).table.owners b.owner.0 nobody ≡ l.owner) same at.owner_is;
      there = subst (λ (p : Parts). b.owner.0 < length (known_of p).table.owners) same at.there;
      own = subst (λ (p : Parts). ShowsSelf (known_of p) b.own_function l.self) same own;
      distinct = subst (λ (p : Parts). AreDistinct p.1.texts) same at.distinct;
      apart = subst (λ (p : Parts). AreApart (known_of p).table.owners) same apart;
      targets = targets;
      told = subst (λ (p : Parts). AreTold targets (known_of p).table) same told;
      good = good;
      inside = subst (λ (p : Parts). (n : List ℕ) → (outside_of all r).touched n ≡ option_map_or (λ i. stands_since b.mark b.inside.now (b.owner.0, i)) (number_of p.1.texts n) false) same inside;
    }
