-- Changes, one after the other, and the places for which the tables stand behind them: lemmas.
use Rattle.std.proofs.Common.{◌≡◌, ◌<◌, ◌≤◌, ◌⊎◌, inl, inr, ℕ, List, length, refl, ◌∙◌, arith}
use Rattle.pc_names.specs.Standing.{StandsFor}
use Rattle.pc_rules.specs.Meanings.{Local, Outside}
use Rattle.pc_growth.specs.GrowsLaws.{Begins-then, Grows-then, less-begins}
use Rattle.pc_places.specs.declared.tables.Tables.{Tables}
use Rattle.pc_places.specs.Scenes.{ShowsUnsigned}
use Rattle.pc_places.specs.MovesLaws.{Moves-same, IsPlace-begun, IsPlace-changed, own-kept}
use Rattle.pc_places.specs.Places.{known, IsPlace, Changes, Moves}

-- a move is a change
pub Changes-moved : (block : ℕ) (old new : Tables) → Moves block old new → Changes block old new
Changes-moved block old new h = record {
  grows = h.grows;
  declarations = h.declarations;
  chains = h.chains;
  distinct = h.distinct;
  others = h.others;
  named = h.named;
  owners = h.owners;
}

pub Changes-same : (block : ℕ) (t : Tables) → Changes block t t
Changes-same block t = Changes-moved block t t (Moves-same block t)

-- what is done in a block that was begun meanwhile changes no other one
pub Changes-within : (block inner : ℕ) (a b c : Tables) → (inner ≡ block ⊎ length a.names.chains ≤ inner) → Changes block a b → Changes inner b c → Changes block a c
Changes-within block inner a b c where_is h g = record {
  grows = Grows-then (known a) (known b) (known c) h.grows g.grows;
  declarations = Begins-then a.declarations.items b.declarations.items c.declarations.items h.declarations g.declarations;
  chains = Begins-then a.names.chains b.names.chains c.names.chains h.chains g.chains;
  distinct = λ d. g.distinct (h.distinct d);
  others = λ k n there apart. g.others k n (less-begins a.names.chains b.names.chains k h.chains there) (differs where_is k there apart) ∙ h.others k n there apart;
  named = λ is. g.named (h.named is);
  owners = g.owners ∙ h.owners;
}
  where
    differs : (inner ≡ block ⊎ length a.names.chains ≤ inner) → (k : ℕ) → k < length a.names.chains → (k ≡ block → ⊥) → (k ≡ inner → ⊥)
    differs (inl e) k there apart = λ q. apart (q ∙ e)
    differs (inr e) k there apart = λ q. omega arith

pub Changes-then : (block : ℕ) (a b c : Tables) → Changes block a b → Changes block b c → Changes block a c
Changes-then block a b c h g = Changes-within block block a b c (inl refl) h g

-- the tables stand for the same place where only a block that was begun later may have got other names
pub IsPlace-later : (later : ℕ) (old new : Tables) (block owner : ℕ) (out : Outside) (l : Local) → block < later → Changes later old new → IsPlace old block owner out l → IsPlace new block owner out l
IsPlace-later later old new block owner out l less k h =
    let there = IsPlace-begun old block owner out l h in
    IsPlace-changed old new block owner out l l k.grows k.declarations k.chains k.distinct (λ b lower n. k.others b n (omega arith) (λ e. omega arith)) refl refl
    (own-kept old new block l k.grows k.declarations (λ n. k.others block n there (λ e. omega arith)) h.own) h

-- the tables stand for another place of the block that was changed if the block does
pub IsPlace-here : (old new : Tables) (block owner : ℕ) (out : Outside) (l m : Local) → Changes block old new → m.fields ≡ l.fields → m.owner ≡ l.owner →
    StandsFor (ShowsUnsigned (known new) new.declarations.items) new.names block m → IsPlace old block owner out l → IsPlace new block owner out m
IsPlace-here old new block owner out l m k fields owners own h =
    let there = IsPlace-begun old block owner out l h in
    IsPlace-changed old new block owner out l m k.grows k.declarations k.chains k.distinct (λ b lower n. k.others b n (omega arith) (λ e. omega arith)) fields owners own h
