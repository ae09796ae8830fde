-- An exchange that a head comes to, and its client.
use Rattle.std.proofs.Common.{◌≡◌, ℕ, Some, None, ◌∙◌}
use Rattle.pp_law.specs.OwnHeads.{key_of}
use Rattle.pp_law.specs.Stages.{filled_of}
use Rattle.pp_law.specs.State.{Client, Exchange, Instance}
use Rattle.pp_laws.specs.Runs.{IsIn}
use Rattle.pp_laws_turn.proofs.View.{KeepsRows, View}
use Rattle.pp_laws_coming.proofs.Facts.{Early, Follows, rows, was_followed}

-- ---- an exchange that a head comes to

-- what its client follows is of its key; and where it fills no hole, its client follows nothing that stands
abbrev pub OfKey : Exchange → View → Type 0
OfKey e v = (n : ℕ) (c : Client) (x : Instance) → e.asker ≡ Some n → IsIn c v.clients → c.number ≡ n → IsIn x v.instances → Follows x c → (filled_of e ≡ None → ⊥) × (x.key ≡ key_of e)

-- its client follows nothing that stands
abbrev pub IsFree : Exchange → View → Type 0
IsFree e v = (n : ℕ) (c : Client) (x : Instance) → e.asker ≡ Some n → IsIn c v.clients → c.number ≡ n → IsIn x v.instances → Follows x c → ⊥

-- it is there, and has a place
pub record Ready (e : Exchange) (v : View) : Type 0 where
  pub facts : Early v
  pub there : IsIn e v.exchanges
  pub placed : e.place ≡ None → ⊥
  pub keyed : OfKey e v

pub ready_rows : (e : Exchange) → KeepsRows (Ready e)
ready_rows e xs next v from h = record {
  facts = rows xs next v from h.facts;
  there = h.there;
  placed = h.placed;
  keyed = λ n c x asks i is j follows.
      let w = was_followed v xs next from x c j (h.facts.settled c i).given follows in
      let its = h.keyed n c w.was asks i is w.there w.follows in
      (its.0, w.key ∙ its.1);
}
