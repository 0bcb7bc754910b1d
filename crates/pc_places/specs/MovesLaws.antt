-- How the tables come to stand for the next place: lemmas.
use Rattle.std.proofs.Common.{◌≡◌, ◌<◌, ◌≤◌, ◌⊎◌, inl, inr, ℕ, zero, List, [], ◌∷◌, length, slice_get, suc, Option, Some, None, refl, ap, sym, ◌∙◌, arith}
use Rattle.std.specs.Option.{unwrap_or}
use Rattle.pc_types.specs.Table.{nobody}
use Rattle.pc_names.specs.Chains.{chain_of}
use Rattle.pc_names.specs.FindingLaws.{FindsAlong-kept}
use Rattle.pc_names.specs.Numbers.{AreDistinct}
use Rattle.pc_names.specs.Standing.{StandsFor}
use Rattle.pc_names.specs.StandingChanges.{StandsFor-kept, StandsFor-more}
use Rattle.pc_names.specs.Table.{slot_named}
use Rattle.pc_rules.specs.Meanings.{Local, Outside}
use Rattle.pc_rules.specs.RequiredMeanings.{required_or_missing}
use Rattle.pc_growth.specs.Grows.{Begins, Grows}
use Rattle.pc_growth.specs.GrowsLaws.{Begins-same, Begins-then, Grows-same, Grows-then, slice_get-begins, less-begins, get_or-begins}
use Rattle.pc_places.specs.declared.tables.Tables.{Tables}
use Rattle.pc_places.specs.Scenes.{ShowsUnsigned}
use Rattle.pc_places.specs.SceneLaws.{ShowsUnsigned-grows, FindsAlong-more}
use Rattle.pc_places.specs.NamingLaws.{Keeps-named}
use Rattle.pc_places.specs.Places.{known, IsPlace, Moves, Keeps}

-- ---- moves, one after the other

pub Keeps-same : (t : Tables) → Keeps t t
Keeps-same t = record {
  grows = Grows-same (known t);
  declarations = Begins-same t.declarations.items;
  chains = Begins-same t.names.chains;
  distinct = λ d. d;
  slots = λ b n. refl;
  domains = Begins-same (known t).table.domains;
  owners = refl;
}

pub Keeps-then : (a b c : Tables) → Keeps a b → Keeps b c → Keeps a c
Keeps-then a b c h g = record {
  grows = Grows-then (known a) (known b) (known c) h.grows g.grows;
  declarations = Begins-then a.declarations.items b.declarations.items c.declarations.items h.declarations g.declarations;
  chains = Begins-then a.names.chains b.names.chains c.names.chains h.chains g.chains;
  distinct = λ d. g.distinct (h.distinct d);
  slots = λ k n. g.slots k n ∙ h.slots k n;
  domains = Begins-then (known a).table.domains (known b).table.domains (known c).table.domains h.domains g.domains;
  owners = g.owners ∙ h.owners;
}

pub Moves-kept : (block : ℕ) (old new : Tables) → Keeps old new → Moves block old new
Moves-kept block old new h = record {
  grows = h.grows;
  declarations = h.declarations;
  chains = h.chains;
  distinct = h.distinct;
  others = λ b n there apart. h.slots b n;
  named = Keeps-named old new h;
  domains = h.domains;
  owners = h.owners;
}

pub Moves-same : (block : ℕ) (t : Tables) → Moves block t t
Moves-same block t = Moves-kept block t t (Keeps-same t)

-- what is done in a block that was begun meanwhile is no move of the other blocks
pub Moves-within : (block inner : ℕ) (a b c : Tables) → (inner ≡ block ⊎ length a.names.chains ≤ inner) → Moves block a b → Moves inner b c → Moves block a c
Moves-within block inner a b c where_is h g = record {
  grows = Grows-then (known a) (known b) (known c) h.grows g.grows;
  declarations = Begins-then a.declarations.items b.declarations.items c.declarations.items h.declarations g.declarations;
  chains = Begins-then a.names.chains b.names.chains c.names.chains h.chains g.chains;
  distinct = λ d. g.distinct (h.distinct d);
  others = λ k n there apart. g.others k n (less-begins a.names.chains b.names.chains k h.chains there) (differs where_is k there apart) ∙ h.others k n there apart;
  named = λ is. g.named (h.named is);
  domains = Begins-then (known a).table.domains (known b).table.domains (known c).table.domains h.domains g.domains;
  owners = g.owners ∙ h.owners;
}
  where
    differs : (inner ≡ block ⊎ length a.names.chains ≤ inner) → (k : ℕ) → k < length a.names.chains → (k ≡ block → ⊥) → (k ≡ inner → ⊥)
    differs (inl e) k there apart = λ q. apart (q ∙ e)
    differs (inr e) k there apart = λ q. omega arith

pub Moves-then : (block : ℕ) (a b c : Tables) → Moves block a b → Moves block b c → Moves block a c
Moves-then block a b c h g = Moves-within block block a b c (inl refl) h g

-- ---- the same place, or another one of the block, after a move

chain-by : (o : Option (List ℕ)) (cs : List (List ℕ)) (block b : ℕ) (outer : List ℕ) → unwrap_or o [] ≡ b ∷ outer → ((c : List ℕ) → o ≡ Some c → slice_get cs block ≡ Some c) →
    chain_of cs block ≡ b ∷ outer
chain-by None cs block b outer e told = cc
chain-by (Some c) cs block b outer e told = ap (λ (o : Option (List ℕ)). unwrap_or o []) (told c refl) ∙ e

chain-begins : (cs ds : List (List ℕ)) (block b : ℕ) (outer : List ℕ) → Begins cs ds → chain_of cs block ≡ b ∷ outer → chain_of ds block ≡ b ∷ outer
chain-begins cs ds block b outer h e = chain-by (slice_get cs block) ds block b outer e (λ c is. slice_get-begins cs ds block c h is)

there-by : (cs : List (List ℕ)) (block b : ℕ) (outer : List ℕ) → chain_of cs block ≡ b ∷ outer → block < length cs
there-by [] block b outer e = cc
there-by (c ∷ cs) zero b outer e = omega arith
there-by (c ∷ cs) (suc i) b outer e = omega (arith, there-by cs i b outer e)

-- a block for which the tables stand was begun
pub IsPlace-begun : (t : Tables) (block owner : ℕ) (out : Outside) (l : Local) → IsPlace t block owner out l → block < length t.names.chains
IsPlace-begun t block owner out l h = there-by t.names.chains block block h.outer h.chain

-- the tables stand for a place of a block if the block does, where the blocks around have what they had
pub IsPlace-changed : (old new : Tables) (block owner : ℕ) (out : Outside) (l m : Local) → Grows (known old) (known new) → Begins old.declarations.items new.declarations.items →
    Begins old.names.chains new.names.chains → (AreDistinct old.names.texts → AreDistinct new.names.texts) →
    ((b : ℕ) → b < block → (n : List ℕ) → slot_named new.names b n ≡ slot_named old.names b n) → m.fields ≡ l.fields → m.owner ≡ l.owner →
    StandsFor (ShowsUnsigned (known new) new.declarations.items) new.names block m → IsPlace old block owner out l → IsPlace new block owner out m
IsPlace-changed old new block owner out l m grows declarations chains distinct lower fields owners own h =
    let S = ShowsUnsigned (known old) old.declarations.items in
    let T = ShowsUnsigned (known new) new.declarations.items in
    record {
      own = own;
      outer = h.outer;
      chain = chain-begins old.names.chains new.names.chains block block h.outer chains h.chain;
      below = h.below;
      around = FindsAlong-kept T required_or_missing old.names new.names block h.outer out.means h.below lower
          (FindsAlong-more S T required_or_missing old.names h.outer out.means
          (λ d x. ShowsUnsigned-grows (known old) (known new) old.declarations.items new.declarations.items d x grows declarations) h.around);
      closed = fields ∙ h.closed;
      distinct = distinct h.distinct;
      owner_is = get_or-begins (known old).table.owners (known new).table.owners owner nobody grows.owners h.there ∙ h.owner_is ∙ sym owners;
      there = less-begins (known old).table.owners (known new).table.owners owner grows.owners h.there;
    }

pub own-kept : (old new : Tables) (block : ℕ) (l : Local) → Grows (known old) (known new) → Begins old.declarations.items new.declarations.items →
    ((n : List ℕ) → slot_named new.names block n ≡ slot_named old.names block n) → StandsFor (ShowsUnsigned (known old) old.declarations.items) old.names block l →
    StandsFor (ShowsUnsigned (known new) new.declarations.items) new.names block l
own-kept old new block l grows declarations kept own =
    let S = ShowsUnsigned (known old) old.declarations.items in
    let T = ShowsUnsigned (known new) new.declarations.items in
    StandsFor-kept T old.names new.names block l kept
    (StandsFor-more S T old.names block l (λ d x. ShowsUnsigned-grows (known old) (known new) old.declarations.items new.declarations.items d x grows declarations) own)

-- the tables stand for the same place where each block has what it had
pub IsPlace-kept : (old new : Tables) (block owner : ℕ) (out : Outside) (l : Local) → Keeps old new → IsPlace old block owner out l → IsPlace new block owner out l
IsPlace-kept old new block owner out l k h =
    IsPlace-changed old new block owner out l l k.grows k.declarations k.chains k.distinct (λ b less n. k.slots b n) refl refl
    (own-kept old new block l k.grows k.declarations (λ n. k.slots block n) h.own) h

-- the same where only a block that was begun later may have got other names
pub IsPlace-moved : (later : ℕ) (old new : Tables) (block owner : ℕ) (out : Outside) (l : Local) → block < later → Moves later old new → IsPlace old block owner out l → IsPlace new block owner out l
IsPlace-moved later old new block owner out l less k h =
    let there = IsPlace-begun old block owner out l h in
    IsPlace-changed old new block owner out l l k.grows k.declarations k.chains k.distinct (λ b lower n. k.others b n (omega arith) (λ e. omega arith)) refl refl
    (own-kept old new block l k.grows k.declarations (λ n. k.others block n there (λ e. omega arith)) h.own) h

-- the tables stand for another place of the block that was moved in if the block does
pub IsPlace-own : (old new : Tables) (block owner : ℕ) (out : Outside) (l m : Local) → Moves block old new → m.fields ≡ l.fields → m.owner ≡ l.owner →
    StandsFor (ShowsUnsigned (known new) new.declarations.items) new.names block m → IsPlace old block owner out l → IsPlace new block owner out m
IsPlace-own old new block owner out l m k fields owners own h =
    let there = IsPlace-begun old block owner out l h in
    IsPlace-changed old new block owner out l m k.grows k.declarations k.chains k.distinct (λ b lower n. k.others b n (omega arith) (λ e. omega arith)) fields owners own h
