-- No reply that begins leaves an exchange that is passed and not answered yet: its client waits for it.
use Rattle.std.proofs.Common.{◌≡◌, refl, Bool, true, false, not, ◌&&◌, List, is_some, Option, Some, None, sym, ap, ◌∙◌}
use Rattle.std.specs.List.{list_any}
use Rattle.pp_world.specs.declared.note.Decision.TheVariants.{Pass}
use Rattle.pp_law.specs.Closing.{forsake, left_alone}
use Rattle.pp_law.specs.Connections.{is_client, is_for}
use Rattle.pp_law.specs.Replies.{begin_replies, begins, begun_at_end, begun_by, begun_decided, begun_passed, is_outrun, passed_reply}
use Rattle.pp_reply.specs.Keeping.{is_end_known}
use Rattle.pp_law.specs.Requests.{Front, Parsed, NoHeadYet, NoHead as NoFront, IsRequest, keeps_open}
use Rattle.pp_law.specs.Stages.{is_begun, is_headed, passed_of}
use Rattle.pp_law.specs.State.{State, Client, Exchange, Term, Passed, Reply, Stage, Undecided, Waiting, Passing, Answering}
use Rattle.pp_law.specs.Table.{swept}
use Rattle.pp_laws.specs.Runs.{IsIn}
use Rattle.pp_laws.proofs.Lists.{Changed, in_change, in_find, other, same}
use Rattle.pp_laws.proofs.Tests.{first_holds, same_number, second_holds}
use Rattle.pp_laws_coming.specs.Coming.{Waits, is_waiting}
use Rattle.pp_laws_coming.proofs.Laws.{asks_told}
use Rattle.pp_laws_turn.specs.SoundTurn.{HasAsker}
use Rattle.pp_laws_turn.proofs.Laws.{sound_turns}
use Rattle.pp_laws_turn.proofs.View.{Holds, facts_of, holds}
use Rattle.pp_laws_waits.proofs.Served.{any_in}
use Rattle.pp_world.specs.Log.{Log}
use Rattle.pp_obeys.specs.Obeys.{Obeys}
use Rattle.pp_laws_left.proofs.BodiesPassed.{fills_none}
use Rattle.pp_laws_left.proofs.Keep.{passed_in}
use Rattle.pp_laws_left.proofs.Owned.{asker_of}
use Rattle.pp_laws_left.proofs.OwnedEnds.{owned_on}
use Rattle.pp_comes_law.specs.Lone.{is_lone}
use Rattle.pp_comes_law.proofs.LoneLate.{Whose}
use Rattle.pp_comes_law.proofs.Lones.{pending_of, through_of}

-- ---- who waits and was passed nothing does not begin

abbrev begun_as : Stage → Bool
begun_as g = elim (elim g as (λ x. Option Reply) [ Undecided ↦ None | Waiting ↦ None | Passing ↦ None | Answering r ↦ Some r ]) as (λ x. Bool) [ None ↦ false | Some r ↦ r.has_begun ]

waiting_not : (t : State) (c : Client) → is_waiting c.stage ≡ true → passed_of c ≡ None → is_begun (begun_at_end t c) ≡ true → ⊥
waiting_not t c waits none = by c.is_closing c.front
  where
    own : is_begun c ≡ true → ⊥
    own begun = at c.stage refl waits
      where
        at : (g : Stage) → c.stage ≡ g → is_waiting g ≡ true → ⊥
        at Undecided is on = cc on
        at Waiting is on = let both : false ≡ true = sym (ap begun_as is) ∙ begun in cc both
        at Passing is on = let both : false ≡ true = sym (ap begun_as is) ∙ begun in cc both
        at (Answering r) is on = cc on

    passed : (q : Parsed) (o : Option Passed) → o ≡ None → is_begun (elim o as (λ y. Client) [ None ↦ c | Some p ↦ record c { stage = Answering (passed_reply t q p Pass); closes = not (keeps_open q && is_end_known p.rule q.head.minor) } ]) ≡ true → ⊥
    passed q None is begun = own begun
    passed q (Some p) is begun = cc is

    staged : (q : Parsed) (g : Stage) → is_waiting g ≡ true → is_begun (elim g as (λ y. Client) [ Undecided ↦ c | Waiting ↦ c | Passing ↦ begun_passed t q Pass c | Answering r ↦ elim r.has_begun as (λ y. Client) [ true ↦ c | false ↦ begun_decided t q r c ] ]) ≡ true → ⊥
    staged q Undecided on begun = cc on
    staged q Waiting on begun = own begun
    staged q Passing on begun = passed q (passed_of c) none begun
    staged q (Answering r) on begun = cc on

    by : (closing : Bool) (f : Front) → is_begun (elim closing as (λ y. Client) [ true ↦ c | false ↦ elim f as (λ y. Client) [ NoHeadYet ↦ c | NoFront status ↦ c | IsRequest q ↦ begun_by t q c ] ]) ≡ true → ⊥
    by true f begun = own begun
    by false NoHeadYet begun = own begun
    by false (NoFront status) begun = own begun
    by false (IsRequest q) begun = staged q c.stage waits begun

-- ---- so it is nobody's only where it was

pub begun-whose : (terms : List Term) (s : State) (log : Log) → Obeys terms s log → Holds Whose s → Holds Whose (begin_replies s)
unfolding begin_replies swept forsake
begun-whose terms s log obeys h = holds (λ e i lone. by e lone (in_change (is_outrun s) left_alone e s.exchanges i))
  where
    spared : (x : Exchange) → IsIn x s.exchanges → is_lone x ≡ true → is_outrun s x ≡ true → ⊥
    spared x j lone hit = waiting_not s a.asker w.stage (ap passed_in w.brought) (ap (λ (y : Client). is_begun (begun_at_end s y)) (sym one) ∙ second_holds (not (is_begun c.0)) (is_begun (begun_at_end s c.0)) (second_holds (is_for x c.0) (begins s c.0) c.2))
      where
        c : (y : Client) × IsIn y s.clients × ((is_for x y && begins s y) ≡ true)
        c = any_in (λ y. is_for x y && begins s y) s.clients (second_holds (not (is_headed x)) (list_any (λ y. is_for x y && begins s y) s.clients) hit)

        asks : x.asker ≡ Some c.0.number
        asks = asker_of c.0.number x.asker (first_holds (is_for x c.0) (begins s c.0) c.2)

        a : HasAsker s x c.0.number
        a = (sound_turns terms s log obeys).askers x c.0.number j asks

        there : IsIn a.asker s.clients × (is_client c.0.number a.asker ≡ true)
        there = in_find (is_client c.0.number) a.asker s.clients a.there

        one : c.0 ≡ a.asker
        one = (facts_of (owned_on terms s log obeys)).callers c.0 a.asker c.1 there.0 (sym (same_number a.asker.number c.0.number there.1))

        w : Waits a.asker
        w = ((asks_told terms s log obeys).told x c.0.number a.asker j asks a.there).waits (fills_none x.aim (through_of x lone)) (ap not (pending_of x lone))

    by : (e : Exchange) → is_lone e ≡ true → Changed (is_outrun s) left_alone s.exchanges e → is_some e.asker ≡ true
    by e lone (same j isnt) = facts_of h e j lone
    by e lone (other x j hit eq) = absurd (spared x j (ap is_lone (sym eq) ∙ lone) hit)
