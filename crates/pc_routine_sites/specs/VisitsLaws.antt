-- How the tables change where routines are gone through, one change after the other, and the places for which they stand behind: lemmas.
use Rattle.std.proofs.Common.{◌≡◌, ◌<◌, ◌≤◌, ◌⊎◌, inl, inr, ℕ, List, [], ◌∷◌, Option, Some, None, length, slice_get, refl, ap, sym, ◌∙◌, subst, arith, append-nil}
use Rattle.std.specs.Option.{unwrap_or}
use Rattle.pc_types.specs.Rows.{seen}
use Rattle.pc_types.specs.Shapes.{Owner}
use Rattle.pc_types.specs.Table as types
use Rattle.pc_types.specs.declared.form.OwnerId.{OwnerId}
use Rattle.pc_names.specs.Chains.{chain_of}
use Rattle.pc_names.specs.Numbers.{AreDistinct}
use Rattle.pc_names.specs.Standing.{StandsFor}
use Rattle.pc_names.specs.Table.{Table, slot_named}
use Rattle.pc_rules.specs.Meanings.{Local, Outside}
use Rattle.pc_facts.specs.declared.sighting.Declared.{Declared}
use Rattle.pc_growth.specs.Grows.{Begins}
use Rattle.pc_growth.specs.GrowsLaws.{Begins-then, Grows-then, less-begins, slice_get-begins}
use Rattle.pc_places.specs.ChangesLaws.{Changes-moved}
use Rattle.pc_places.specs.MovesLaws.{IsPlace-begun, IsPlace-changed, Moves-kept, Moves-same, own-kept}
use Rattle.pc_places.specs.Places.{known, IsPlace, IsNamed, Changes, Moves, Keeps}
use Rattle.pc_places.specs.Scenes.{ShowsUnsigned}
use Rattle.pc_places.specs.declared.tables.Tables.{Tables}
use Rattle.pc_routine_sites.specs.Identities.{IsOwner}
use Rattle.pc_routine_sites.specs.Visits.{Visits}

-- a change within a block is a visit
pub Visits-changed : (block : ℕ) (old new : Tables) → Changes block old new → Visits block old new
Visits-changed block old new h = record {
  grows = h.grows;
  declarations = h.declarations;
  chains = h.chains;
  distinct = h.distinct;
  others = h.others;
  named = h.named;
}

pub Visits-moved : (block : ℕ) (old new : Tables) → Moves block old new → Visits block old new
Visits-moved block old new h = Visits-changed block old new (Changes-moved block old new h)

pub Visits-kept : (block : ℕ) (old new : Tables) → Keeps old new → Visits block old new
Visits-kept block old new h = Visits-moved block old new (Moves-kept block old new h)

pub Visits-same : (block : ℕ) (t : Tables) → Visits block t t
Visits-same block t = Visits-moved block t t (Moves-same block t)

-- what is done in a block that was begun meanwhile changes no other one
pub Visits-within : (block inner : ℕ) (a b c : Tables) → (inner ≡ block ⊎ length a.names.chains ≤ inner) → Visits block a b → Visits inner b c → Visits block a c
Visits-within block inner a b c where_is h g = record {
  grows = Grows-then (known a) (known b) (known c) h.grows g.grows;
  declarations = Begins-then a.declarations.items b.declarations.items c.declarations.items h.declarations g.declarations;
  chains = Begins-then a.names.chains b.names.chains c.names.chains h.chains g.chains;
  distinct = λ d. g.distinct (h.distinct d);
  others = λ k n there apart. g.others k n (less-begins a.names.chains b.names.chains k h.chains there) (differs where_is k there apart) ∙ h.others k n there apart;
  named = λ is. g.named (h.named is);
}
  where
    differs : (inner ≡ block ⊎ length a.names.chains ≤ inner) → (k : ℕ) → k < length a.names.chains → (k ≡ block → ⊥) → (k ≡ inner → ⊥)
    differs (inl e) k there apart = λ q. apart (q ∙ e)
    differs (inr e) k there apart = λ q. omega arith

pub Visits-then : (block : ℕ) (a b c : Tables) → Visits block a b → Visits block b c → Visits block a c
Visits-then block a b c h g = Visits-within block block a b c (inl refl) h g

-- ---- places

chain-by : (o : Option (List ℕ)) (cs : List (List ℕ)) (block b : ℕ) (outer : List ℕ) → unwrap_or o [] ≡ b ∷ outer → ((c : List ℕ) → o ≡ Some c → slice_get cs block ≡ Some c) →
    chain_of cs block ≡ b ∷ outer
chain-by None cs block b outer e told = cc
chain-by (Some c) cs block b outer e told = ap (λ (o : Option (List ℕ)). unwrap_or o []) (told c refl) ∙ e

-- a block that was begun is in the same ones
pub chain-visited : (old new : List (List ℕ)) (block b : ℕ) (outer : List ℕ) → Begins old new → chain_of old block ≡ b ∷ outer → chain_of new block ≡ b ∷ outer
chain-visited old new block b outer h e = chain-by (slice_get old block) new block b outer e (λ c is. slice_get-begins old new block c h is)

-- the tables stand for the same place where only a block that was begun later may have got other names
pub IsPlace-visited : (later : ℕ) (old new : Tables) (block owner : ℕ) (out : Outside) (l : Local) → block < later → Visits later old new → IsPlace old block owner out l → IsPlace new block owner out l
IsPlace-visited later old new block owner out l less k h =
    let there = IsPlace-begun old block owner out l h in
    IsPlace-changed old new block owner out l l k.grows k.declarations k.chains k.distinct (λ b lower n. k.others b n (omega arith) (λ e. omega arith)) refl refl
    (own-kept old new block l k.grows k.declarations (λ n. k.others block n there (λ e. omega arith)) h.own) h

-- the tables stand for another place of the block that was visited if the block does
pub IsPlace-here : (old new : Tables) (block owner : ℕ) (out : Outside) (l m : Local) → Visits block old new → m.fields ≡ l.fields → m.owner ≡ l.owner →
    StandsFor (ShowsUnsigned (known new) new.declarations.items) new.names block m → IsPlace old block owner out l → IsPlace new block owner out m
IsPlace-here old new block owner out l m k fields owners own h =
    let there = IsPlace-begun old block owner out l h in
    IsPlace-changed old new block owner out l m k.grows k.declarations k.chains k.distinct (λ b lower n. k.others b n (omega arith) (λ e. omega arith)) fields owners own h

-- ---- one more owner

begins-equal : {X : Type 0} (xs ys : List X) → ys ≡ xs → Begins xs ys
begins-equal {X} xs ys e = record { more = []; is = e ∙ sym (append-nil xs) }

-- types, owners and the like grow, and all else stays
types-visit : (block : ℕ) (old new : Tables) → Begins (known old).table.shapes (known new).table.shapes → Begins (known old).table.owners (known new).table.owners → new.names ≡ old.names →
    new.declarations ≡ old.declarations → new.signatures ≡ old.signatures → new.texts ≡ old.texts → Visits block old new
types-visit block old new shapes owners names declarations signatures texts = record {
  grows = record {
    shapes = shapes;
    owners = owners;
    names = begins-equal old.names.texts new.names.texts (ap (λ (t : Table). t.texts) names);
    texts = begins-equal old.texts.items new.texts.items (ap (λ v. v.items) texts);
    signatures = begins-equal old.signatures.items new.signatures.items (ap (λ v. v.items) signatures);
  };
  declarations = begins-equal old.declarations.items new.declarations.items (ap (λ v. v.items) declarations);
  chains = begins-equal old.names.chains new.names.chains (ap (λ (t : Table). t.chains) names);
  distinct = λ d. subst (λ (t : Table). AreDistinct t.texts) (sym names) d;
  others = λ b n there apart. ap (λ (t : Table). slot_named t b n) names;
  named = λ is. subst (λ (t : Table). IsNamed t new.declarations.items) (sym names) (subst (λ (ds : List Declared). IsNamed old.names ds) (sym (ap (λ v. v.items) declarations)) is);
}

owned-shapes : (taken : Option OwnerId) (o : Owner) (old new : types.Table) (i : OwnerId) → IsOwner taken o old new i → Begins old.shapes new.shapes
owned-shapes (Some d) o old new i h = begins-equal old.shapes new.shapes (ap (λ (t : types.Table). t.shapes) h.1)
owned-shapes None o old new i h = begins-equal old.shapes new.shapes h.1.shapes

pub owned-owners : (taken : Option OwnerId) (o : Owner) (old new : types.Table) (i : OwnerId) → IsOwner taken o old new i → Begins old.owners new.owners
owned-owners (Some d) o old new i h = begins-equal old.owners new.owners (ap (λ (t : types.Table). t.owners) h.1)
owned-owners None o old new i h = record { more = o ∷ []; is = h.1.owners }

-- a routine got its number as an owner
pub Visits-owned : (block : ℕ) (taken : Option OwnerId) (o : Owner) (i : OwnerId) (old new : Tables) → IsOwner taken o (seen old.types) (seen new.types) i → new.names ≡ old.names →
    new.declarations ≡ old.declarations → new.signatures ≡ old.signatures → new.texts ≡ old.texts → Visits block old new
Visits-owned block taken o i old new h names declarations signatures texts =
    types-visit block old new (owned-shapes taken o (seen old.types) (seen new.types) i h) (owned-owners taken o (seen old.types) (seen new.types) i h) names declarations signatures texts
