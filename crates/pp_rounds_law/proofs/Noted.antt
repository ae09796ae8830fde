-- Notes of decisions change neither what is set nor which numbers were given, and behind them the phase is that of decisions.
use Rattle.std.proofs.Common.{◌≡◌, refl, subst, ap, ◌∙◌, ℕ, true, [], ◌∷◌, Option, Some, None}
use Rattle.pp_law.specs.After.{after, changed, forgotten_by, leave_memory, noted, refused_row, take_decision}
use Rattle.pp_law.specs.Closing.{close_client}
use Rattle.pp_law.specs.Connections.{client}
use Rattle.pp_law.specs.Deciding.{decided}
use Rattle.pp_law.specs.Leaving.{Leaving, ForAnother, ForMemory, BeforeDecision, leaving_as}
use Rattle.pp_law.specs.Lists.{Bytes}
use Rattle.pp_law.specs.Phases.{come_to, come_to_decide, deciding}
use Rattle.pp_law.specs.Replies.{regained}
use Rattle.pp_law.specs.State.{State, Client, Instance, Phase, Deciding, Evicting}
use Rattle.pp_law.specs.Table.{forget}
use Rattle.pp_obeys.proofs.Frames.{Frame, frame, frame_of, stays}
use Rattle.pp_obeys.proofs.StaysAsks.{decided-stays}
use Rattle.pp_obeys.proofs.StaysTable.{close_client-stays, forget-stays}
use Rattle.pp_obeys.proofs.StaysTurns.{come_to-frame, come_to_decide-frame, refused_row-stays, regained-stays}
use Rattle.pp_obeys.specs.Moves.{Leads}
use Rattle.pp_world.specs.declared.happening.Happening.TheVariants.{Noted}
use Rattle.pp_world.specs.declared.note.Cause.{Cause}
use Rattle.pp_world.specs.declared.note.Decision.{Decision}
use Rattle.pp_world.specs.declared.note.Remark.TheVariants.{Cut, Forgotten, Taken}

-- what is set, and which numbers were given
pub record SetAs (s t : State) : Type 0 where
  pub settings : t.settings ≡ s.settings
  pub top : t.top ≡ s.top

pub set_itself : (s : State) → SetAs s s
set_itself s = record { settings = refl; top = refl }

pub set_then : (s t u : State) → SetAs s t → SetAs t u → SetAs s u
set_then s t u one two = record { settings = two.settings ∙ one.settings; top = two.top ∙ one.top }

set_each : {A : Type 0} (o : Option A) (s x : State) (f : A → State) → SetAs s x → ((a : A) → SetAs s (f a)) → SetAs s (elim o as (λ c. State) [ None ↦ x | Some a ↦ f a ])
set_each None s x f one two = one
set_each (Some a) s x f one two = two a

-- ---- a row that leaves

come_to_set : (p : Phase) (s : State) → SetAs s (come_to p s)
come_to_set p s = record { settings = ap (λ (o : Frame). o.settings) (come_to-frame true p s); top = ap (λ (o : Frame). o.top) (come_to-frame true p s) }

forget_set : (id : ℕ) (s : State) → SetAs s (forget id s)
forget_set id s = let same : frame true (forget id s) ≡ frame true s = frame_of (forget-stays {all = true} {o = frame true s} id s (stays refl)) in record { settings = ap (λ (o : Frame). o.settings) same; top = ap (λ (o : Frame). o.top) same }

refused_set : (x : Instance) (s : State) → SetAs s (refused_row x s)
refused_set x s = let same : frame true (refused_row x s) ≡ frame true s = frame_of (refused_row-stays {all = true} {o = frame true s} x s (stays refl)) in record { settings = ap (λ (o : Frame). o.settings) same; top = ap (λ (o : Frame). o.top) same }

decide_set : (s : State) → SetAs s (come_to_decide s)
decide_set s = record { settings = ap (λ (o : Frame). o.settings) (come_to_decide-frame true s); top = ap (λ (o : Frame). o.top) (come_to_decide-frame true s) }

leaves_set : (how : Leaving) (s : State) → SetAs s (leave_memory how s)
unfolding leave_memory
leaves_set ForAnother s = let come : SetAs s (come_to Evicting s) = come_to_set Evicting s in record { settings = come.settings; top = come.top }
leaves_set (ForMemory x) s = set_then s (come_to Evicting s) (refused_row x (come_to Evicting s)) (come_to_set Evicting s) (refused_set x (come_to Evicting s))
leaves_set (BeforeDecision x) s =
    let both : SetAs s (forget x.id (come_to_decide s)) = set_then s (come_to_decide s) (forget x.id (come_to_decide s)) (decide_set s) (forget_set x.id (come_to_decide s)) in record { settings = both.settings; top = both.top }

pub forgotten_set : (key : Bytes) (s : State) → SetAs s (after s (Noted (Forgotten key)))
unfolding changed noted forgotten_by
forgotten_set key s = set_each (leaving_as s key) s s (λ how. leave_memory how s) (set_itself s) (λ how. leaves_set how s)

-- ---- a decision, or a cut

pub record IsBehind (s t : State) : Type 0 where
  pub set : SetAs s t
  pub phase : t.phase ≡ Deciding

deciding_behind : (s : State) → IsBehind s (deciding s)
unfolding deciding
deciding_behind s = record { set = record { settings = ap (λ (o : Frame). o.settings) (come_to_decide-frame true s); top = ap (λ (o : Frame). o.top) (come_to_decide-frame true s) }; phase = refl }

framed : (s t : State) → frame true t ≡ frame true (deciding s) → IsBehind s t
framed s t same =
    let before : IsBehind s (deciding s) = deciding_behind s in
    record {
      set = record { settings = ap (λ (o : Frame). o.settings) same ∙ before.set.settings; top = ap (λ (o : Frame). o.top) same ∙ before.set.top };
      phase = ap (λ (o : Frame). o.phase) same ∙ before.phase;
    }

of_client : (s : State) (d : Decision) (o : Option Client)
    → IsBehind s (elim o as (λ t. State) [ None ↦ deciding s | Some c ↦ regained (record (decided c d (deciding s)) { forgotten = []; made_room_for = None }) ])
of_client s d None = deciding_behind s
of_client s d (Some c) =
    let t : State = record (decided c d (deciding s)) { forgotten = []; made_room_for = None } in
    let one : frame true (decided c d (deciding s)) ≡ frame true (deciding s) = frame_of (decided-stays {all = true} {o = frame true (deciding s)} c d (deciding s) (stays refl)) in
    let two : frame true (regained t) ≡ frame true t = frame_of (regained-stays {all = true} {o = frame true t} t (stays refl)) in
    let before : IsBehind s (decided c d (deciding s)) = framed s (decided c d (deciding s)) one in
    record {
      set = record { settings = ap (λ (o : Frame). o.settings) two ∙ before.set.settings; top = ap (λ (o : Frame). o.top) two ∙ before.set.top };
      phase = ap (λ (o : Frame). o.phase) two ∙ before.phase;
    }

pub taken_behind : (c i : ℕ) (d : Decision) (s : State) → IsBehind s (after s (Noted (Taken c i d)))
unfolding changed noted take_decision
taken_behind c i d s = of_client s d (client (deciding s) c)

pub cut_behind : (c : ℕ) (cause : Cause) (s : State) → IsBehind s (after s (Noted (Cut c cause)))
unfolding changed noted
cut_behind c cause s = framed s (close_client c true (deciding s)) (frame_of (close_client-stays {all = true} {o = frame true (deciding s)} c true (deciding s) (stays refl)))

-- ---- where they lead

pub taken_leads : (c i : ℕ) (d : Decision) (s t : State) → Leads (Noted (Taken c i d) ∷ []) s t → IsBehind s t
taken_leads c i d s t leads = subst (λ (u : State). IsBehind s u) leads.holds (taken_behind c i d s)

pub cut_leads : (c : ℕ) (cause : Cause) (s t : State) → Leads (Noted (Cut c cause) ∷ []) s t → IsBehind s t
cut_leads c cause s t leads = subst (λ (u : State). IsBehind s u) leads.holds (cut_behind c cause s)

pub forgotten_leads : (key : Bytes) (c i : ℕ) (d : Decision) (s t : State) → Leads (Noted (Forgotten key) ∷ Noted (Taken c i d) ∷ []) s t → IsBehind s t
forgotten_leads key c i d s t leads =
    let u : State = after s (Noted (Forgotten key)) in
    let rest : IsBehind u t = taken_leads c i d u t leads.holds in
    record { set = set_then s u t (forgotten_set key s) rest.set; phase = rest.phase }
