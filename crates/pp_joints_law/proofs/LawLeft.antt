-- Where the entry of a chunk that could not be read is noted as gone, the law has left the event.
use Rattle.std.proofs.Common.{◌≡◌, refl, sym, ap, ◌∙◌, Bool, true, false, find, Option, Some, None, ℕ, [], ◌∷◌}
use Rattle.pp_events_law.specs.Stands.{IsHandled}
use Rattle.pp_law.specs.After.{after, changed, noted}
use Rattle.pp_law.specs.Lists.{Bytes}
use Rattle.pp_law.specs.Opening.{is_at, is_same_phase}
use Rattle.pp_law.specs.Permits.{IsPermitted, is_permitted, permits, permits_behind_forgotten}
use Rattle.pp_law.specs.Phases.{come_to}
use Rattle.pp_law.specs.Replies.{regained}
use Rattle.pp_law.specs.State.{State, Entry, Phase, Handling, Keeping}
use Rattle.pp_law.specs.Store.{may_note_gone, note_gone, remove_entry}
use Rattle.pp_law.specs.Table.{is_entry_of}
use Rattle.pp_obeys.specs.Moves.{Leads}
use Rattle.pp_proxy.specs.Moving.{Moving}
use Rattle.pp_world.specs.declared.happening.Happening.TheVariants.{Noted, Unread}
use Rattle.pp_world.specs.declared.note.Remark.TheVariants.{Gone}

-- it may be noted with the disk alone
at_disk : (key : Bytes) (s : State) → IsPermitted s (Noted (Gone key)) → is_at Keeping (come_to Keeping s) ≡ true
unfolding is_permitted permits
at_disk key s may = by s.made_room_for may
  where
    first : (b : Bool) (rest : Bool) → (elim b as (λ c. Bool) [ true ↦ rest | false ↦ false ]) ≡ true → b ≡ true
    first true rest is = refl
    first false rest is = absurd (cc is)

    by : (o : Option ℕ) → (elim o as (λ c. Bool) [ Some who ↦ permits_behind_forgotten s (Noted (Gone key)) | None ↦ permits s (Noted (Gone key)) ]) ≡ true → is_at Keeping (come_to Keeping s) ≡ true
    by None is = first (is_at Keeping (come_to Keeping s)) (may_note_gone (come_to Keeping s) key) is
    by (Some who) is = absurd (cc is)

gone_phase : (key : Bytes) (s : State) → (note_gone key s).phase ≡ s.phase
unfolding note_gone remove_entry
gone_phase key s = by (find (is_entry_of key) s.entries)
  where
    by : (o : Option Entry) → (elim o as (λ c. State) [ None ↦ s | Some e ↦ remove_entry e s ]).phase ≡ s.phase
    by None = refl
    by (Some e) = refl

gone_is : (key : Bytes) (s : State) → (after s (Noted (Gone key))).phase ≡ (come_to Keeping s).phase
unfolding changed noted
gone_is key s = gone_phase key (come_to Keeping s)

handled_phase : (number : ℕ → ℕ) (y : Moving) (t : State) → IsHandled number y t → t.phase ≡ Handling
unfolding regained
handled_phase number y t it = ap (λ (u : State). u.phase) it.anew ∙ it.stands.law.at

-- so nothing that is handled in the event is behind it
pub never_gone : (number : ℕ → ℕ) (y : Moving) (name key : Bytes) (s t : State) → Leads (Unread name ∷ Noted (Gone key) ∷ []) s t → IsHandled number y t → ⊥
never_gone number y name key s t leads it =
    let u : State = after s (Unread name) in
    let at : is_at Keeping (come_to Keeping u) ≡ true = at_disk key u (leads.holds.may (λ fails. absurd (cc fails))) in
    let phase : (come_to Keeping u).phase ≡ Handling = sym (gone_is key u) ∙ ap (λ (v : State). v.phase) leads.holds.holds ∙ handled_phase number y t it in
    absurd (let both : true ≡ false = sym at ∙ ap (λ (p : Phase). is_same_phase Keeping p) phase in cc both)
