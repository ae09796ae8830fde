-- The law: as a turn ends, whose pipe has no room may be answered by what is passed.
use Rattle.std.proofs.Common.{◌≡◌, refl, ℕ, Bool, true, false, not, ◌==◌, ◌&&◌, Option, Some, None, option_map, sym, ap, ◌∙◌}
use Rattle.pp_pass.specs.Pipe.{room_of}
use Rattle.pp_reply.specs.Keeping.{is_end_known}
use Rattle.pp_world.specs.declared.note.Decision.{Decision}
use Rattle.pp_world.specs.declared.note.Decision.TheVariants.{Pass}
use Rattle.pp_law.specs.Closing.{forsake}
use Rattle.pp_law.specs.Connections.{is_for}
use Rattle.pp_law.specs.Lists.{is_some_with}
use Rattle.pp_law.specs.Phases.{come_to}
use Rattle.pp_law.specs.Replies.{begin_replies, begun_at_end, begun_by, begun_decided, begun_instance, begun_passed, begun_reply, may_begin, passed_reply}
use Rattle.pp_law.specs.Requests.{Front, Parsed, NoHeadYet, NoHead as NoFront, IsRequest, keeps_open}
use Rattle.pp_law.specs.Served.{has_full_pipe}
use Rattle.pp_law.specs.Stages.{is_begun, is_passing, passed_of}
use Rattle.pp_law.specs.State.{State, Awaiting, DecidingAgain, Free, Client, Exchange, Instance, Passed, Reply, Stage, Undecided, Waiting, Passing, Answering}
use Rattle.pp_law.specs.Table.{source_of, swept}
use Rattle.pp_laws.specs.Runs.{IsIn}
use Rattle.pp_laws.proofs.Lists.{From, in_map}
use Rattle.pp_laws_coming.specs.Coming.{may_have_ask}
use Rattle.pp_laws_coming.proofs.Laws.{asks_told}
use Rattle.pp_laws_ends.specs.Ends.{may_pass}
use Rattle.pp_laws_ends.proofs.Undecided.{Ends, ends_at}
use Rattle.pp_obeys.specs.Obeys.{Obeys}
use Rattle.pp_laws_left.specs.Left.{EndsAreToPass}
use Rattle.pp_laws_left.proofs.Fresh.{fresh_at}
use Rattle.pp_laws_left.proofs.Keep.{AtEvent, begun_in}
use Rattle.pp_laws_left.proofs.Laws.{ends_are_left}
use Rattle.pp_laws_left.proofs.Spoken.{Speaks}
use Rattle.pp_laws_left.proofs.SpokenBegins.{IsFresh}
use Rattle.pp_laws_left.proofs.SpokenHappenings.{begun_all}
use Rattle.pp_laws_left.proofs.SpokenLaws.{obeys_to, spoken_on_log}
use Rattle.pp_laws_left.proofs.Turns.{fine_on}

abbrev StaysAs : Client → Client → Type 0
StaysAs c d = is_begun d ≡ false → d ≡ c

-- who has not begun behind it is as it was
pub unbegun_same : (t : State) (c : Client) → is_begun (begun_at_end t c) ≡ false → begun_at_end t c ≡ c
unbegun_same t c = by c.is_closing c.front
  where
    same : StaysAs c c
    same off = refl

    passed : (q : Parsed) (d : Decision) (o : Option Passed) → StaysAs c (elim o as (λ y. Client) [ None ↦ c | Some p ↦ record c { stage = Answering (passed_reply t q p d); closes = not (keeps_open q && is_end_known p.rule q.head.minor) } ])
    passed q d None = same
    passed q d (Some p) = λ off. absurd (cc off)

    may : (q : Parsed) (r : Reply) (x : Instance) (b : Bool) → StaysAs c (elim b as (λ y. Client) [ true ↦ record c { stage = Answering (begun_reply t q c r x) } | false ↦ c ])
    may q r x true = λ off. absurd (cc off)
    may q r x false = same

    rowed : (q : Parsed) (r : Reply) (o : Option Instance) → StaysAs c (elim o as (λ y. Client) [ None ↦ c | Some x ↦ elim (may_begin t r x) as (λ z. Client) [ true ↦ record c { stage = Answering (begun_reply t q c r x) } | false ↦ c ] ])
    rowed q r None = same
    rowed q r (Some x) = may q r x (may_begin t r x)

    kind : (q : Parsed) (r : Reply) (b : Bool) → StaysAs c (elim b as (λ y. Client) [ true ↦ begun_passed t q r.decision c | false ↦ begun_instance t q r c ])
    kind q r true = passed q r.decision (passed_of c)
    kind q r false = rowed q r (source_of t r)

    answer : (q : Parsed) (r : Reply) (b : Bool) → StaysAs c (elim b as (λ y. Client) [ true ↦ c | false ↦ begun_decided t q r c ])
    answer q r true = same
    answer q r false = kind q r (is_passing r.decision)

    staged : (q : Parsed) (g : Stage) → StaysAs c (elim g as (λ y. Client) [ Undecided ↦ c | Waiting ↦ c | Passing ↦ begun_passed t q Pass c | Answering r ↦ elim r.has_begun as (λ y. Client) [ true ↦ c | false ↦ begun_decided t q r c ] ])
    staged q Undecided = same
    staged q Waiting = same
    staged q Passing = passed q Pass (passed_of c)
    staged q (Answering r) = answer q r r.has_begun

    by : (closing : Bool) (f : Front) → StaysAs c (elim closing as (λ y. Client) [ true ↦ c | false ↦ elim f as (λ y. Client) [ NoHeadYet ↦ c | NoFront status ↦ c | IsRequest q ↦ begun_by t q c ] ])
    by true f = same
    by false NoHeadYet = same
    by false (NoFront status) = same
    by false (IsRequest q) = staged q c.stage

-- a pipe is that of what is passed
full_some : (e : Exchange) (c : Client) → has_full_pipe e c ≡ true → passed_of c ≡ None → ⊥
full_some e c full none = by (is_for e c) (sym (ap (λ (o : Option Passed). is_some_with (λ n. n == 0) (elim (is_for e c) as (λ y. Option ℕ) [ false ↦ None | true ↦ option_map (λ p. room_of p.pipe) o ])) none) ∙ full)
  where
    by : (b : Bool) → is_some_with (λ n. n == 0) (elim b as (λ y. Option ℕ) [ false ↦ None | true ↦ None ]) ≡ true → ⊥
    by true at = cc at
    by false at = cc at

pub ends_are_to_pass : EndsAreToPass
unfolding begin_replies swept forsake
ends_are_to_pass terms s log ends e d i j full = by (in_map (begun_at_end t) d t.clients j)
  where
    t : State
    t = come_to DecidingAgain s

    o : Obeys terms (come_to DecidingAgain s) log
    o = obeys_to DecidingAgain terms s log ends.obeys

    at : Ends (come_to DecidingAgain s)
    at = ends_at terms s log ends.obeys ends.early ends.may ends.runs

    fresh : (c : Client) → IsIn c (come_to DecidingAgain s).clients → IsFresh c
    fresh c k = fresh_at terms (come_to DecidingAgain s) log o at.runs c k (at.none c k)

    speaks : Speaks true (AtEvent Awaiting Free) d
    speaks = (begun_all (come_to DecidingAgain s) (fine_on terms (come_to DecidingAgain s) log o) (ends_are_left terms s log ends.obeys) fresh (spoken_on_log terms (come_to DecidingAgain s) log o)).1 d j

    by : From (begun_at_end (come_to DecidingAgain s)) (come_to DecidingAgain s).clients d → may_pass d.stage ≡ true
    by r = staged d.stage refl
      where
        still : is_begun d ≡ false → d ≡ r.was
        still off = r.is ∙ unbegun_same (come_to DecidingAgain s) r.was (sym (ap is_begun r.is) ∙ off)

        nowhere : passed_of d ≡ None → may_pass d.stage ≡ true
        nowhere none = absurd (full_some e d full none)

        not_passed : (q : Reply) → d.stage ≡ Answering q → is_passing q.decision ≡ false → (b : Bool) → q.has_begun ≡ b → may_pass d.stage ≡ true
        not_passed q is row true on = nowhere (speaks.bare q (is, (on, row)))
        not_passed q is row false off =
            let eq : d ≡ r.was = still (ap begun_in is ∙ off) in
            nowhere (ap passed_of eq ∙ fresh r.was r.there (at.going r.was r.there) q (sym (ap (λ (x : Client). x.stage) eq) ∙ is) off row)

        answered : (q : Reply) → d.stage ≡ Answering q → (b : Bool) → is_passing q.decision ≡ b → may_pass d.stage ≡ true
        answered q is true on = ap may_pass is ∙ on
        answered q is false row = not_passed q is row q.has_begun refl

        staged : (stage : Stage) → d.stage ≡ stage → may_pass d.stage ≡ true
        staged Undecided is =
            let eq : d ≡ r.was = still (ap begun_in is) in
            nowhere (ap passed_of eq ∙ (asks_told terms (come_to DecidingAgain s) log o).unasked r.was r.there (ap may_have_ask (sym (ap (λ (x : Client). x.stage) eq) ∙ is)))
        staged Waiting is = ap may_pass is
        staged Passing is = ap may_pass is
        staged (Answering q) is = answered q is (is_passing q.decision) refl
