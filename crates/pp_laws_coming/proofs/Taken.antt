-- A decision that is taken rests on what was brought.
use Rattle.std.proofs.Common.{◌≡◌, refl, ℕ, true, false, ◌&&◌, ◌||◌, Option, Some, None, sym, subst, ap, ◌∙◌}
use Rattle.pp_world.specs.declared.note.Decision.{Decision}
use Rattle.pp_world.specs.declared.note.Decision.TheVariants.{Refuse, Relay}
use Rattle.pp_law.specs.Connections.{client, is_client}
use Rattle.pp_law.specs.Permits.{is_same_decision, may_want_memory, permits_taken}
use Rattle.pp_law.specs.Phases.{come_to_decide, deciding}
use Rattle.pp_law.specs.Stages.{passed_of}
use Rattle.pp_law.specs.State.{State, Awaited, Brought, Joins, Passed, Passes, TooWide, Useless, Client}
use Rattle.pp_laws.specs.Runs.{IsIn}
use Rattle.pp_laws.proofs.Lists.{in_find, one_of}
use Rattle.pp_laws.proofs.Sound.{Since, Sound, client_number, facts_of as sound_facts}
use Rattle.pp_laws.proofs.Steps.{come_to_decide-sound}
use Rattle.pp_laws.proofs.Tests.{same_number}
use Rattle.pp_laws_coming.proofs.Plans.{is_by_row, is_relay, nothing_relayed, passed_by_none}
use Rattle.pp_laws_coming.proofs.Alike.{relay_unpaged, row_unpaged, same_relay, same_row}
use Rattle.pp_laws_coming.proofs.Dues.{IsDue, from_due, taken_due}
use Rattle.pp_laws_coming.proofs.Followed.{Rests}
use Rattle.pp_laws_coming.proofs.Stays.{passed_in}

passes_in : (c : Client) (p : Passed) → passed_of c ≡ Some p → c.brought ≡ Passes p
passes_in c p is = by c.brought refl is
  where
    by : (b : Brought) → c.brought ≡ b → passed_in b ≡ Some p → c.brought ≡ Passes p
    by Awaited at some = absurd (cc some)
    by Useless at some = absurd (cc some)
    by (Joins id plain) at some = absurd (cc some)
    by TooWide at some = absurd (cc some)
    by (Passes q) at some = let one : q ≡ p = cc some in at ∙ ap (λ (x : Passed). Passes x) one

-- where the decision is taken, it rests on what was brought
pub taken_rests : {b : Since} (s : State) (n i : ℕ) (d : Decision) (c : Client) → Sound b s → permits_taken s n i d ≡ true → client (deciding s) n ≡ Some c → Rests c d (deciding s)
unfolding deciding
taken_rests s n i d c so may found = record { there = (in_find (is_client n) c (come_to_decide s).clients found).0; brought = brought; nothing = nothing }
  where
    t : State
    t = come_to_decide s

    w : IsDue (come_to_decide s) n d
    w = taken_due s n i d may

    one : (e : Client) → IsIn e (come_to_decide s).clients → e.number ≡ c.number → e ≡ w.own
    one e there number =
        let its : c.number ≡ n = same_number c.number n (in_find (is_client n) c (come_to_decide s).clients found).1 in
        one_of client_number (come_to_decide s).clients e w.own (sound_facts (come_to_decide-sound s so)).callers.rise there w.there (number ∙ its ∙ sym w.number)

    brought : d ≡ Relay → (e : Client) → IsIn e (come_to_decide s).clients → e.number ≡ c.number → e.brought ≡ Awaited → ⊥
    brought relay e there number none =
        let due : is_relay w.due ≡ true = same_relay w.due (subst (λ (x : Decision). (is_same_decision w.due x || (is_same_decision x (Refuse 500) && may_want_memory (come_to_decide s) n)) ≡ true) relay w.alike) in
        let off : is_relay w.due ≡ false = nothing_relayed (come_to_decide s) w.own w.due (ap (λ (x : Client). x.brought) (sym (one e there number)) ∙ none) (from_due (come_to_decide s) w.own w.due (relay_unpaged w.due due) w.is) in
        let both : true ≡ false = sym due ∙ off in
        cc both

    nothing : is_by_row d ≡ true → (e : Client) → IsIn e (come_to_decide s).clients → e.number ≡ c.number → passed_of e ≡ None
    nothing by_row e there number = ap passed_of (one e there number) ∙ by (passed_of w.own) refl
      where
        due : is_by_row w.due ≡ true
        due = same_row (may_want_memory (come_to_decide s) n) d w.due w.alike by_row

        by : (o : Option Passed) → passed_of w.own ≡ o → o ≡ None
        by None none = refl
        by (Some p) some =
            let off : is_by_row w.due ≡ false = passed_by_none (come_to_decide s) w.own p w.due (passes_in w.own p some) (from_due (come_to_decide s) w.own w.due (row_unpaged w.due due) w.is) in
            let both : true ≡ false = sym due ∙ off in
            absurd (cc both)
