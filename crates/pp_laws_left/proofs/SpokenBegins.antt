-- Replies that are decided, and that begin; and a request that is next.
use Rattle.std.proofs.Common.{◌≡◌, refl, ℕ, ◌+◌, ◌-◌, Bool, true, false, not, ◌==◌, ◌&&◌, ◌||◌, [], drop, length, is_some, Option, Some, None, sym, ap, ◌∙◌}
use Rattle.pp_reply.specs.Keeping.{is_end_known}
use Rattle.pp_text.specs.Bytes.{is_empty}
use Rattle.pp_world.specs.declared.note.Decision.{Decision}
use Rattle.pp_world.specs.declared.note.Decision.TheVariants.{Pass}
use Rattle.pp_law.specs.Deciding.{answering_with, asking_with, first_interim, is_pass, refused_with, stage_for}
use Rattle.pp_law.specs.Lists.{Bytes, is_some_with}
use Rattle.pp_law.specs.Replies.{begun_at_end, begun_by, begun_decided, begun_instance, begun_passed, begun_reply, is_said, may_begin, next_request, passed_reply}
use Rattle.pp_law.specs.Requests.{Front, Parsed, NoHeadYet, NoHead as NoFront, IsRequest, keeps_open, parsed_in}
use Rattle.pp_law.specs.Stages.{is_begun, is_passing, passed_of}
use Rattle.pp_law.specs.State.{State, Awaited, Client, Instance, Passed, Reply, Stage, Trying, Undecided, Waiting, Passing, Answering}
use Rattle.pp_law.specs.Table.{source_of}
use Rattle.pp_laws_served.specs.Served.{IsReply}
use Rattle.pp_laws_served.proofs.HasHeads.{HasHead, begun_head, begun_still}
use Rattle.pp_laws_left.proofs.Choices.{waits_for}
use Rattle.pp_laws_left.proofs.Fine.{Fine, Places, begun, has_begun, one_reply, undecided}
use Rattle.pp_laws_left.proofs.Keep.{begun_in, passed_in}
use Rattle.pp_laws_left.proofs.Spoken.{Passes, Reads, Speaks, is_whole, never, said_in}

-- ---- what is decided

-- nothing is answered
none_said : (interim : Bytes) (stage : Stage) (whole : Bool) → (elim stage as (λ y. Option Reply) [ Undecided ↦ None | Waiting ↦ None | Passing ↦ None | Answering r ↦ Some r ]) ≡ None → said_in interim stage whole ≡ false
none_said interim stage whole none =
    ap (λ o. is_empty interim && is_some_with (λ (r : Reply). r.has_begun && is_empty r.head_left && ((r.at == r.to) && (not (is_passing r.decision) || whole))) o) none ∙ never (is_empty interim)

-- in whatever phase: where nothing was decided that is passed
pub refused_speaks : {At : Type 0} (status : ℕ) (c : Client) → Speaks true At (refused_with status c)
refused_speaks status c = record {
  unsaid = λ is runs. never (is_empty (first_interim c));
  passed = λ runs r is. let off : false ≡ true = ap (λ (x : Reply). is_passing x.decision) (one_reply is.0) ∙ is.1 in absurd (cc off);
  begun = λ at runs r is. let off : false ≡ true = ap (λ (x : Reply). is_passing x.decision) (one_reply is.0) ∙ is.1 in absurd (cc off);
  bare = λ r is. refl;
}

asks_none : (pass : Bool) → (elim (elim pass as (λ t. Stage) [ true ↦ Passing | false ↦ Waiting ]) as (λ y. Option Reply) [ Undecided ↦ None | Waiting ↦ None | Passing ↦ None | Answering r ↦ Some r ]) ≡ None
asks_none true = refl
asks_none false = refl

pub asking_speaks : {At : Type 0} (d : Decision) (c : Client) → Speaks true At (asking_with d c)
asking_speaks d c = record {
  unsaid = λ is runs. none_said (first_interim c) (stage_for d) (is_whole None) (asks_none (is_pass d));
  passed = λ runs r is. absurd (waits_for d r is.0);
  begun = λ at runs r is. absurd (waits_for d r is.0);
  bare = λ r is. refl;
}

pub answering_speaks : {At : Type 0} (r : Reply) (c : Client) → (At → ⊥) → r.has_begun ≡ false → (is_passing r.decision ≡ true → is_some (passed_of c) ≡ true) → Speaks true At (answering_with r c)
answering_speaks r c off fresh passed = record {
  unsaid = λ is runs. ap (λ t. is_empty (first_interim c) && (t && is_empty r.head_left && ((r.at == r.to) && (not (is_passing r.decision) || is_whole (passed_of c))))) fresh ∙ never (is_empty (first_interim c));
  passed = λ runs q is. passed (ap (λ (x : Reply). is_passing x.decision) (one_reply is.0) ∙ is.1);
  begun = λ at runs q is. absurd (off at);
  bare = λ q is. let both : false ≡ true = sym fresh ∙ ap (λ (x : Reply). x.has_begun) (one_reply is.0) ∙ is.1.0 in absurd (cc both);
}

-- ---- the next request

abbrev freed : Client → Client
freed c = record c {
  front = NoHeadYet;
  heard = drop c.body_left c.heard;
  skip = c.skip + (c.body_left - length c.heard);
  body_left = 0;
  index = c.index + 1;
  stage = Undecided;
  waits_on = None;
  brought = Awaited;
  course = Trying 0;
  has_given_up = false;
  interim_left = [];
  closes = false;
}

pub none_speaks : {At : Type 0} (c : Client) → c.stage ≡ Undecided → Speaks true At c
none_speaks c at = record {
  unsaid = λ is runs. none_said c.interim_left c.stage (is_whole (passed_of c)) (ap (λ (x : Stage). elim x as (λ y. Option Reply) [ Undecided ↦ None | Waiting ↦ None | Passing ↦ None | Answering r ↦ Some r ]) at);
  passed = λ runs r is. let both : Undecided ≡ Answering r = sym at ∙ is.0 in absurd (cc both);
  begun = λ w runs r is. let both : Undecided ≡ Answering r = sym at ∙ is.0 in absurd (cc both);
  bare = λ r is. let both : Undecided ≡ Answering r = sym at ∙ is.0 in absurd (cc both);
}

pub next_undecided : (c : Client) → (next_request c).stage ≡ Undecided
next_undecided c = refl

pub next_speaks : {At : Type 0} (c : Client) → Speaks true At (next_request c)
next_speaks c = none_speaks (next_request c) (next_undecided c)

-- ---- a reply begins

-- what its exchange brought is the same, and so is whether it is closing
record Same (d c : Client) : Type 0 where
  brought : d.brought ≡ c.brought
  closing : d.is_closing ≡ c.is_closing

same_as : (c : Client) → Same c c
same_as c = record { brought = refl; closing = refl }

begun_same : (t : State) (c : Client) → Same (begun_at_end t c) c
begun_same t c = by c.is_closing c.front
  where
    passed_same : (q : Parsed) (d : Decision) (o : Option Passed) → Same (elim o as (λ y. Client) [ None ↦ c | Some p ↦ record c { stage = Answering (passed_reply t q p d); closes = not (keeps_open q && is_end_known p.rule q.head.minor) } ]) c
    passed_same q d None = same_as c
    passed_same q d (Some p) = record { brought = refl; closing = refl }

    row_same : (q : Parsed) (r : Reply) (x : Instance) (b : Bool) → Same (elim b as (λ y. Client) [ true ↦ record c { stage = Answering (begun_reply t q c r x) } | false ↦ c ]) c
    row_same q r x true = record { brought = refl; closing = refl }
    row_same q r x false = same_as c

    rowed_same : (q : Parsed) (r : Reply) (o : Option Instance) → Same (elim o as (λ y. Client) [ None ↦ c | Some x ↦ elim (may_begin t r x) as (λ z. Client) [ true ↦ record c { stage = Answering (begun_reply t q c r x) } | false ↦ c ] ]) c
    rowed_same q r None = same_as c
    rowed_same q r (Some x) = row_same q r x (may_begin t r x)

    kind : (q : Parsed) (r : Reply) (b : Bool) → Same (elim b as (λ y. Client) [ true ↦ begun_passed t q r.decision c | false ↦ begun_instance t q r c ]) c
    kind q r true = passed_same q r.decision (passed_of c)
    kind q r false = rowed_same q r (source_of t r)

    answer : (q : Parsed) (r : Reply) (b : Bool) → Same (elim b as (λ y. Client) [ true ↦ c | false ↦ begun_decided t q r c ]) c
    answer q r true = same_as c
    answer q r false = kind q r (is_passing r.decision)

    staged : (q : Parsed) (g : Stage) → Same (elim g as (λ y. Client) [ Undecided ↦ c | Waiting ↦ c | Passing ↦ begun_passed t q Pass c | Answering r ↦ elim r.has_begun as (λ y. Client) [ true ↦ c | false ↦ begun_decided t q r c ] ]) c
    staged q Undecided = same_as c
    staged q Waiting = same_as c
    staged q Passing = passed_same q Pass (passed_of c)
    staged q (Answering r) = answer q r r.has_begun

    by : (closing : Bool) (f : Front) → Same (elim closing as (λ y. Client) [ true ↦ c | false ↦ elim f as (λ y. Client) [ NoHeadYet ↦ c | NoFront status ↦ c | IsRequest q ↦ begun_by t q c ] ]) c
    by true f = same_as c
    by false NoHeadYet = same_as c
    by false (NoFront status) = same_as c
    by false (IsRequest q) = staged q c.stage

-- one that is passed has begun behind it
module _ {At : Type 0} (t : State) (c : Client) (h : Speaks true At c) (fine : Fine c) (runs : c.is_closing ≡ false) where
  has : (r : Reply) → c.stage ≡ Answering r → is_passing r.decision ≡ true → is_some (passed_of c) ≡ true
  has r at on = h.passed runs r (at, on)

  abbrev Whole : Client → Type 0
  Whole d = (r : Reply) → Passes d r → (is_some (passed_of c) ≡ true) × (r.has_begun ≡ true)

  stood : (stage : Stage) → c.stage ≡ stage → ((r : Reply) → stage ≡ Answering r → is_passing r.decision ≡ true → r.has_begun ≡ true) → Whole c
  stood stage at has_begun r is = (has r is.0 is.1, has_begun r (sym at ∙ is.0) is.1)

  passed_whole : (q : Parsed) (d : Decision) (o : Option Passed) → passed_of c ≡ o → (o ≡ None → (r : Reply) → Passes c r → ⊥)
      → Whole (elim o as (λ y. Client) [ None ↦ c | Some p ↦ record c { stage = Answering (passed_reply t q p d); closes = not (keeps_open q && is_end_known p.rule q.head.minor) } ])
  passed_whole q d None none off r is = absurd (off refl r is)
  passed_whole q d (Some p) found off r is = (ap (λ (o : Option Passed). is_some o) found, ap (λ (x : Reply). x.has_begun) (sym (one_reply is.0)))

  none_passes : (stage : Stage) → c.stage ≡ stage → ((r : Reply) → stage ≡ Answering r → is_passing r.decision ≡ true → ⊥) → (r : Reply) → Passes c r → ⊥
  none_passes stage at off r is = off r (sym at ∙ is.0) is.1

  begun_whole : Whole (begun_at_end t c)
  begun_whole = by c.is_closing refl c.front refl
    where
      rowed : (q : Parsed) (r : Reply) → is_passing r.decision ≡ false → c.stage ≡ Answering r → (o : Option Instance)
          → Whole (elim o as (λ y. Client) [ None ↦ c | Some x ↦ elim (may_begin t r x) as (λ z. Client) [ true ↦ record c { stage = Answering (begun_reply t q c r x) } | false ↦ c ] ])
      rowed q r off at o p is = by_row o p is
        where
          not_it : (p : Reply) → Passes c p → ⊥
          not_it p is = let on : is_passing r.decision ≡ true = ap (λ (x : Reply). is_passing x.decision) (one_reply (sym at ∙ is.0)) ∙ is.1 in let both : false ≡ true = sym off ∙ on in cc both

          by_may : (x : Instance) (b : Bool) (p : Reply) → Passes (elim b as (λ z. Client) [ true ↦ record c { stage = Answering (begun_reply t q c r x) } | false ↦ c ]) p → (is_some (passed_of c) ≡ true) × (p.has_begun ≡ true)
          by_may x true p is = let both : false ≡ true = sym off ∙ ap (λ (z : Reply). is_passing z.decision) (one_reply is.0) ∙ is.1 in absurd (cc both)
          by_may x false p is = absurd (not_it p is)

          by_row : (o : Option Instance) (p : Reply) → Passes (elim o as (λ y. Client) [ None ↦ c | Some x ↦ elim (may_begin t r x) as (λ z. Client) [ true ↦ record c { stage = Answering (begun_reply t q c r x) } | false ↦ c ] ]) p
              → (is_some (passed_of c) ≡ true) × (p.has_begun ≡ true)
          by_row None p is = absurd (not_it p is)
          by_row (Some x) p is = by_may x (may_begin t r x) p is

      kind : (q : Parsed) (r : Reply) → c.stage ≡ Answering r → (b : Bool) → is_passing r.decision ≡ b → Whole (elim b as (λ y. Client) [ true ↦ begun_passed t q r.decision c | false ↦ begun_instance t q r c ])
      kind q r at true on = passed_whole q r.decision (passed_of c) refl (λ none p is. let both : false ≡ true = sym (ap (λ (o : Option Passed). is_some o) none) ∙ has r at on in cc both)
      kind q r at false off = rowed q r off at (source_of t r)

      answer : (q : Parsed) (r : Reply) → c.stage ≡ Answering r → (b : Bool) → r.has_begun ≡ b → Whole (elim b as (λ y. Client) [ true ↦ c | false ↦ begun_decided t q r c ])
      answer q r at true on = stood (Answering r) at (λ p is passes. ap (λ (x : Reply). x.has_begun) (sym (one_reply is)) ∙ on)
      answer q r at false off = kind q r at (is_passing r.decision) refl

      staged : (q : Parsed) (g : Stage) → c.stage ≡ g → Whole (elim g as (λ y. Client) [ Undecided ↦ c | Waiting ↦ c | Passing ↦ begun_passed t q Pass c | Answering r ↦ elim r.has_begun as (λ y. Client) [ true ↦ c | false ↦ begun_decided t q r c ] ])
      staged q Undecided at = stood Undecided at (λ r is. absurd (cc is))
      staged q Waiting at = stood Waiting at (λ r is. absurd (cc is))
      staged q Passing at = passed_whole q Pass (passed_of c) refl (λ none r is. let both : Passing ≡ Answering r = sym at ∙ is.0 in cc both)
      staged q (Answering r) at = answer q r at r.has_begun refl

      -- a place where no head is has a page at most
      placed : parsed_in c.front ≡ None → Whole c
      placed none r is = (has r is.0 is.1, begun_there (fine.place none) r is)
        where
          begun_there : Places c.stage → (r : Reply) → Passes c r → r.has_begun ≡ true
          begun_there (undecided on) r is =
              let off : false ≡ true = ap (λ (x : Stage). elim x as (λ y. Bool) [ Undecided ↦ true | Waiting ↦ false | Passing ↦ false | Answering p ↦ false ]) (sym is.0) ∙ on in absurd (cc off)
          begun_there (begun on) r is = ap has_begun (sym is.0) ∙ on

      by : (closing : Bool) → c.is_closing ≡ closing → (f : Front) → c.front ≡ f → Whole (elim closing as (λ y. Client) [ true ↦ c | false ↦ elim f as (λ y. Client) [ NoHeadYet ↦ c | NoFront status ↦ c | IsRequest q ↦ begun_by t q c ] ])
      by true closing f at = let both : true ≡ false = sym closing ∙ runs in absurd (cc both)
      by false closing NoHeadYet at = placed (ap parsed_in at)
      by false closing (NoFront status) at = placed (ap parsed_in at)
      by false closing (IsRequest q) at = staged q c.stage refl

-- who reads on from a row now, and did not, was decided to
record IsRowed (c : Client) : Type 0 where
  goes : c.is_closing ≡ false
  reply : Reply
  is : c.stage ≡ Answering reply
  fresh : reply.has_begun ≡ false
  row : is_passing reply.decision ≡ false

abbrev AreRowed : Client → Client → Type 0
AreRowed c d = (r : Reply) → Reads d r → IsRowed c

reads_row : (t : State) (c : Client) → is_begun c ≡ false → (r : Reply) → Reads (begun_at_end t c) r → IsRowed c
reads_row t c off = by c.is_closing refl c.front
  where
    none : AreRowed c c
    none r is = let both : false ≡ true = sym off ∙ ap begun_in is.0 ∙ is.1.0 in absurd (cc both)

    passed : (q : Parsed) (d : Decision) → is_passing d ≡ true → (o : Option Passed) → AreRowed c (elim o as (λ y. Client) [ None ↦ c | Some p ↦ record c { stage = Answering (passed_reply t q p d); closes = not (keeps_open q && is_end_known p.rule q.head.minor) } ])
    passed q d on None = none
    passed q d on (Some p) = λ r is. let both : true ≡ false = sym on ∙ ap (λ (x : Reply). is_passing x.decision) (one_reply is.0) ∙ is.1.1 in absurd (cc both)

    kind : (q : Parsed) (p : Reply) → c.is_closing ≡ false → c.stage ≡ Answering p → p.has_begun ≡ false → (b : Bool) → is_passing p.decision ≡ b → AreRowed c (elim b as (λ y. Client) [ true ↦ begun_passed t q p.decision c | false ↦ begun_instance t q p c ])
    kind q p goes at fresh true on = passed q p.decision on (passed_of c)
    kind q p goes at fresh false row = λ r is. record { goes = goes; reply = p; is = at; fresh = fresh; row = row }

    answer : (q : Parsed) (p : Reply) → c.is_closing ≡ false → c.stage ≡ Answering p → (b : Bool) → p.has_begun ≡ b → AreRowed c (elim b as (λ y. Client) [ true ↦ c | false ↦ begun_decided t q p c ])
    answer q p goes at true on = none
    answer q p goes at false fresh = kind q p goes at fresh (is_passing p.decision) refl

    staged : (q : Parsed) (g : Stage) → c.is_closing ≡ false → c.stage ≡ g → AreRowed c (elim g as (λ y. Client) [ Undecided ↦ c | Waiting ↦ c | Passing ↦ begun_passed t q Pass c | Answering r ↦ elim r.has_begun as (λ y. Client) [ true ↦ c | false ↦ begun_decided t q r c ] ])
    staged q Undecided goes at = none
    staged q Waiting goes at = none
    staged q Passing goes at = passed q Pass refl (passed_of c)
    staged q (Answering p) goes at = answer q p goes at p.has_begun refl

    by : (closing : Bool) → c.is_closing ≡ closing → (f : Front) → AreRowed c (elim closing as (λ y. Client) [ true ↦ c | false ↦ elim f as (λ y. Client) [ NoHeadYet ↦ c | NoFront status ↦ c | IsRequest q ↦ begun_by t q c ] ])
    by true goes f = none
    by false goes NoHeadYet = none
    by false goes (NoFront status) = none
    by false goes (IsRequest q) = staged q c.stage goes refl

-- before it begins nothing is passed to who reads from a row
abbrev pub IsFresh : Client → Type 0
IsFresh c = c.is_closing ≡ false → (r : Reply) → c.stage ≡ Answering r → r.has_begun ≡ false → is_passing r.decision ≡ false → passed_of c ≡ None

-- behind it
pub begun_speaks : {At Then : Type 0} (t : State) (c : Client) → Fine c → (c.is_closing ≡ false → (r : Reply) → c.stage ≡ Answering r → IsReply c r) → IsFresh c → Speaks true At c → Speaks true Then (begun_at_end t c)
begun_speaks {At} {Then} t c fine replies fresh h = record {
  unsaid = λ is runs. unsaid (sym s.closing ∙ runs);
  passed = λ runs r is. ap (λ b. is_some (passed_in b)) s.brought ∙ (begun_whole {At = At} t c h fine (sym s.closing ∙ runs) r is).0;
  begun = λ at runs r is. (begun_whole {At = At} t c h fine (sym s.closing ∙ runs) r is).1;
  bare = λ r is. bare (is_begun c) refl r is;
}
  where
    s : Same (begun_at_end t c) c
    s = begun_same t c

    bare : (b : Bool) → is_begun c ≡ b → (r : Reply) → Reads (begun_at_end t c) r → passed_of (begun_at_end t c) ≡ None
    bare true on r is = ap passed_of (begun_still t c on) ∙ h.bare r (sym (ap (λ (x : Client). x.stage) (begun_still t c on)) ∙ is.0, is.1)
    bare false off r is = let w = reads_row t c off r is in ap passed_in s.brought ∙ fresh w.goes w.reply w.is w.fresh w.row

    headed : (d : Client) → HasHead d → is_said d ≡ false
    headed d head =
        ap (λ o. is_empty d.interim_left && is_some_with (λ (r : Reply). r.has_begun && is_empty r.head_left && ((r.at == r.to) && (not (is_passing r.decision) || is_whole (passed_of d)))) o) head.is
        ∙ (ap (λ b. is_empty d.interim_left && (head.reply.has_begun && b && ((head.reply.at == head.reply.to) && (not (is_passing head.reply.decision) || is_whole (passed_of d))))) head.head
        ∙ (ap (λ b. is_empty d.interim_left && (b && ((head.reply.at == head.reply.to) && (not (is_passing head.reply.decision) || is_whole (passed_of d))))) (never head.reply.has_begun) ∙ never (is_empty d.interim_left)))

    begun_none : (d : Client) → is_begun d ≡ false → is_said d ≡ false
    begun_none d off = by d.stage off
      where
        by : (stage : Stage) → is_some_with (λ (r : Reply). r.has_begun) (elim stage as (λ y. Option Reply) [ Undecided ↦ None | Waiting ↦ None | Passing ↦ None | Answering r ↦ Some r ]) ≡ false → said_in d.interim_left stage (is_whole (passed_of d)) ≡ false
        by Undecided at = never (is_empty d.interim_left)
        by Waiting at = never (is_empty d.interim_left)
        by Passing at = never (is_empty d.interim_left)
        by (Answering r) at = ap (λ t0. is_empty d.interim_left && (t0 && is_empty r.head_left && ((r.at == r.to) && (not (is_passing r.decision) || is_whole (passed_of d))))) at ∙ never (is_empty d.interim_left)

    unsaid : c.is_closing ≡ false → is_said (begun_at_end t c) ≡ false
    unsaid runs = by (is_begun c) (is_begun (begun_at_end t c)) refl refl
      where
        by : (was now : Bool) → is_begun c ≡ was → is_begun (begun_at_end t c) ≡ now → is_said (begun_at_end t c) ≡ false
        by true now on at = ap is_said (begun_still t c on) ∙ h.unsaid refl runs
        by false true off at = headed (begun_at_end t c) (begun_head t c (replies runs) off at)
        by false false off at = begun_none (begun_at_end t c) at
