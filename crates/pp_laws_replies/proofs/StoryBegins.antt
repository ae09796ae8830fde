-- Replies begin at the end of a turn.
use Rattle.std.proofs.Common.{◌≡◌, refl, ℕ, ◌+◌, ◌-◌, ◌<◌, ◌≤◌, Bool, true, false, not, ◌==◌, ◌&&◌, [], ◌++◌, map, Option, Some, None, inl, inr, sym, subst, ap, ◌∙◌, append-nil, zero-le, arith}
use Rattle.pp_plan.specs.Spans.{resolved}
use Rattle.pp_ranges.specs.declared.range.Resolved.{Resolved}
use Rattle.pp_ranges.specs.declared.range.Resolved.TheVariants.{Whole as OfAll, Part as OfPart, Unsatisfiable as OfNone}
use Rattle.pp_reply.specs.Keeping.{is_end_known}
use Rattle.pp_reply.specs.Kept.{kept_reply, whole_head, part_head}
use Rattle.pp_reply.specs.declared.kept.KeptReply.{KeptReply}
use Rattle.pp_reply.specs.declared.kept.KeptReply.TheVariants.{Whole as AllOf, Part as SomeOf, Head as HeadOf, NotModified as SameAs, Unsatisfiable as NoneOf}
use Rattle.pp_world.specs.declared.note.Decision.{Decision}
use Rattle.pp_world.specs.declared.note.Decision.TheVariants.{Refuse, Hit, Part, Head, NotModified, Unsatisfiable, Relay, Validate, Fetch, Pass}
use Rattle.pp_law.specs.Deciding.{span_of}
use Rattle.pp_law.specs.Lists.{Bytes}
use Rattle.pp_law.specs.Replies.{passed_reply, begun_passed, age_shown, is_part, instance_head, may_begin, kept_source, begun_reply, begun_instance, begun_decided, begun_by, begun_at_end, is_outrun, begin_replies}
use Rattle.pp_law.specs.Requests.{Front, Parsed, NoHeadYet, NoHead as NoFront, IsRequest, has_request, keeps_open}
use Rattle.pp_law.specs.Stages.{is_passing, passed_of}
use Rattle.pp_law.specs.State.{State, Client, Passed, Stage, Undecided, Waiting, Passing, Answering, Reply, Instance}
use Rattle.pp_law.specs.Table.{instance, is_instance, source_of}
use Rattle.pp_valid.specs.declared.version.Version.{Version}
use Rattle.pp_laws.specs.Runs.{IsIn}
use Rattle.pp_laws.proofs.Callers.{begun_at_end-same}
use Rattle.pp_laws.proofs.Lists.{in_find}
use Rattle.pp_laws.proofs.Tests.{same_number}
use Rattle.pp_laws_replies.specs.ByRow.{is_by_row}
use Rattle.pp_laws_replies.specs.Replies.{interim_to, shown_len, IsKindOf, IsOfSpan}
use Rattle.pp_laws_replies.specs.Shown.{span_shown}
use Rattle.pp_laws_replies.proofs.ByRowLemmas.{Shows, SpanOf}
use Rattle.pp_laws_replies.proofs.Quiet.{quiet_same}
use Rattle.pp_laws_replies.proofs.QuietAsks.{forsake-quiet}
use Rattle.pp_laws_replies.proofs.QuietRows.{swept-quiet}
use Rattle.pp_laws_replies.proofs.Spans.{span_end, span_order}
use Rattle.pp_laws_replies.proofs.Stories.{Follows, Told, still_follows, Begun, a_kept, a_passed, Chosen, to_pass, to_show, Now, undecided, waiting, chosen, begun, Orderly, kept_orderly, quiet_orderly}

-- ---- before a reply begins

-- the interim answer is as far said as it was, and nothing else
head_first : (last il head whole : Bytes) → last ++ il ≡ whole → (last ++ il) ++ head ≡ (whole ++ head) ++ []
head_first last il head whole is = ap (λ l. l ++ head) is ∙ sym (append-nil (whole ++ head))

-- what it is read from, if any of the body is shown, is there, and of the version that is seen
record IsRead (s : State) (r : Reply) (x : Instance) : Type 0 where
  given : (id : ℕ) → kept_source r ≡ Some id → id < s.next_instance
  versions : (y : Instance) → IsIn y s.instances → kept_source r ≡ Some y.id → y.version ≡ x.version

module _ (s : State) (c : Client) (decided : Option Decision) (last : Bytes) where
  abbrev IsNow : Client → Type 0
  IsNow d = Now s.instances s.next_instance decided d last

  passed_now : (q : Parsed) (d : Decision) → c.front ≡ IsRequest q → is_passing d ≡ true → decided ≡ Some d → last ++ c.interim_left ≡ interim_to c.front → IsNow c → IsNow (begun_passed s q d c)
  passed_now q d front passing taken is now = by (passed_of c)
    where
      by : (o : Option Passed) → IsNow (elim o as (λ x. Client) [
        | None ↦ c
        | Some p ↦ record c { stage = Answering (passed_reply s q p d); closes = not (keeps_open q && is_end_known p.rule q.head.minor) }
      ])
      by None = now
      by (Some p) =
          let r = passed_reply s q p d in
          begun r refl refl taken (ap has_request front) r.head_left [] (head_first last c.interim_left r.head_left (interim_to c.front) is) (inl refl)
          (a_passed q front passing (record { response = p.head; rule = p.rule; name = s.settings.name; spelled = refl }) refl)

  -- ---- a reply that is read from an instance

  no_more : (at to : ℕ) → at ≡ 0 → to ≡ 0 → (0 + 0 ≡ at) × (0 + (to - at) ≡ 0)
  no_more at to one two = (omega arith, omega arith)

  in_order : (a b from to n : ℕ) → a ≡ from → b ≡ to → from ≤ to → to ≤ n → (a ≤ b) × (b ≤ n)
  in_order a b from to n e1 e2 e3 e4 = (omega arith, omega arith)

  shown_head : (q : Parsed) (r : Reply) (x : Instance) (from to : ℕ) → from ≤ to → to ≤ x.version.length → c.front ≡ IsRequest q → c.closes ≡ not (keeps_open q) → is_by_row r.decision ≡ true → ((kind : KeptReply) → IsOfSpan from to x.version.length kind → IsKindOf r.decision x.version.length kind)
      → r.at ≡ from → r.to ≡ to → IsRead s r x → (res : Resolved) → Shows res x.version.length from to
      → Begun s.instances s.next_instance c.front c.closes (begun_reply s q c r x) (elim (is_part res) as (λ y. Bytes) [
        | true ↦ part_head from to x.version.length x.fields (age_shown s c x) s.settings.name (keeps_open q)
        | false ↦ whole_head x.version.length x.fields (age_shown s c x) s.settings.name (keeps_open q)
      ]) []
  shown_head q r x from to order within front end by decides at to_is read OfAll shows =
      let sums = whole r.at r.to from to x.version.length at to_is shows.0 shows.1 in
      a_kept q front by (record {
        version = x.version;
        kind = AllOf;
        is_decided = decides AllOf (inl (refl, shows.0, shows.1));
        fields = x.fields;
        age = age_shown s c x;
        name = s.settings.name;
        spelled = refl;
        place = sums.0;
        order = (in_order r.at r.to from to x.version.length at to_is order within).0;
        end = sums.1;
        within = (in_order r.at r.to from to x.version.length at to_is order within).1;
        still_to_say = sums.2;
        source = read.versions;
      }) read.given end
    where
      whole : (a b m n k : ℕ) → a ≡ m → b ≡ n → m ≡ 0 → n ≡ k → (0 + 0 ≡ a) × (b ≡ k) × (0 + (b - a) ≡ k)
      whole a b m n k e1 e2 e3 e4 = (omega arith, omega arith, omega arith)
  shown_head q r x from to order within front end by decides at to_is read (OfPart first behind) shows =
      let sums = part r.at r.to from to at to_is in
      a_kept q front by (record {
        version = x.version;
        kind = SomeOf from to;
        is_decided = decides (SomeOf from to) (inr refl);
        fields = x.fields;
        age = age_shown s c x;
        name = s.settings.name;
        spelled = refl;
        place = sums.0;
        order = (in_order r.at r.to from to x.version.length at to_is order within).0;
        end = to_is;
        within = (in_order r.at r.to from to x.version.length at to_is order within).1;
        still_to_say = sums.1;
        source = read.versions;
      }) read.given end
    where
      part : (a b m n : ℕ) → a ≡ m → b ≡ n → (m + 0 ≡ a) × (0 + (b - a) ≡ n - m)
      part a b m n e1 e2 = (omega arith, omega arith)
  shown_head q r x from to order within front end by decides at to_is read OfNone shows = absurd shows

  -- nothing of the body is shown
  bare_head : (q : Parsed) (r : Reply) (x : Instance) (kind : KeptReply) → c.front ≡ IsRequest q → c.closes ≡ not (keeps_open q) → is_by_row r.decision ≡ true → IsKindOf r.decision x.version.length kind → r.at ≡ 0 → r.to ≡ 0 → IsRead s r x
      → span_shown kind x.version.length ≡ (0, 0) → shown_len kind x.version.length ≡ 0
      → Begun s.instances s.next_instance c.front c.closes (begun_reply s q c r x) (kept_reply kind x.version.length x.fields (age_shown s c x) s.settings.name (keeps_open q)) []
  bare_head q r x kind front end by decides at to read none empty =
      let sums = no_more r.at r.to at to in
      a_kept q front by (record {
        version = x.version;
        kind = kind;
        is_decided = decides;
        fields = x.fields;
        age = age_shown s c x;
        name = s.settings.name;
        spelled = refl;
        place = ap (λ (span : ℕ × ℕ). span.0 + 0) none ∙ sums.0;
        order = (in_order r.at r.to 0 0 x.version.length at to zero-le zero-le).0;
        end = to ∙ sym (ap (λ (span : ℕ × ℕ). span.1) none);
        within = (in_order r.at r.to 0 0 x.version.length at to zero-le zero-le).1;
        still_to_say = sums.1 ∙ sym empty;
        source = read.versions;
      }) read.given end

  kept_begun : (q : Parsed) (r : Reply) (x : Instance) (d : Decision) → c.front ≡ IsRequest q → c.closes ≡ not (keeps_open q) → r.decision ≡ d → is_by_row d ≡ true → SpanOf q.head x.version d → r.at ≡ (span_of d).0 → r.to ≡ (span_of d).1 → IsRead s r x
      → Begun s.instances s.next_instance c.front c.closes (begun_reply s q c r x) (instance_head s q c x d) []
  kept_begun q r x (Refuse status) front end is by span at to read = absurd (cc by)
  kept_begun q r x Relay front end is by span at to read = absurd (cc by)
  kept_begun q r x Validate front end is by span at to read = absurd (cc by)
  kept_begun q r x Fetch front end is by span at to read = absurd (cc by)
  kept_begun q r x Pass front end is by span at to read = absurd (cc by)
  kept_begun q r x (Hit from upto) front end is by span at to read =
      shown_head q r x from upto (span_order q.head x.version (Hit from upto) span) (span_end q.head x.version (Hit from upto) span) front end (ap is_by_row is) (λ kind w. subst (λ e. IsKindOf e x.version.length kind) (sym is) w) at to read (resolved q.head.fields x.version) span
  kept_begun q r x (Part from upto) front end is by span at to read =
      shown_head q r x from upto (span_order q.head x.version (Part from upto) span) (span_end q.head x.version (Part from upto) span) front end (ap is_by_row is) (λ kind w. subst (λ e. IsKindOf e x.version.length kind) (sym is) w) at to read (resolved q.head.fields x.version) span
  kept_begun q r x Head front end is by span at to read = bare_head q r x HeadOf front end (ap is_by_row is) (subst (λ e. IsKindOf e x.version.length HeadOf) (sym is) refl) at to read refl refl
  kept_begun q r x NotModified front end is by span at to read = bare_head q r x SameAs front end (ap is_by_row is) (subst (λ e. IsKindOf e x.version.length SameAs) (sym is) refl) at to read refl refl
  kept_begun q r x Unsatisfiable front end is by span at to read = bare_head q r x NoneOf front end (ap is_by_row is) (subst (λ e. IsKindOf e x.version.length NoneOf) (sym is) refl) at to read refl refl

  source_at : (o : Option ℕ) (x : Instance) (id : ℕ) → o ≡ Some id → (elim o as (λ y. Option Instance) [ None ↦ None | Some i ↦ instance s i ]) ≡ Some x → IsIn x s.instances × (x.id ≡ id)
  source_at None x id has is = absurd (cc is)
  source_at (Some i) x id has is = let there = in_find (is_instance i) x s.instances is in let eq : i ≡ id = cc in (there.0, same_number x.id i there.1 ∙ eq)

  same_front : (q p : Parsed) → c.front ≡ IsRequest q → c.front ≡ IsRequest p → p ≡ q
  same_front q p one two = let both : IsRequest p ≡ IsRequest q = sym two ∙ one in cc

  instance_now : (q : Parsed) (r : Reply) → c.front ≡ IsRequest q → is_passing r.decision ≡ false → decided ≡ Some r.decision → last ++ c.interim_left ≡ interim_to c.front → Chosen s.instances s.next_instance c.front c.closes r → IsNow c → IsNow (begun_instance s q r c)
  instance_now q r front isnt_on taken is (to_pass is_on) now = let both : false ≡ true = sym isnt_on ∙ is_on in absurd (cc both)
  instance_now q r front isnt_on taken is (to_show p asks closing by v span at to id source lt versions) now = by_source (source_of s r) refl
    where
      end : c.closes ≡ not (keeps_open q)
      end = closing ∙ ap (λ (y : Parsed). not (keeps_open y)) (same_front q p front asks)

      shown : SpanOf q.head v r.decision
      shown = subst (λ (y : Parsed). SpanOf y.head v r.decision) (same_front q p front asks) span

      -- the one that was followed, where it still is
      its : (t : Bool) (n : ℕ) → (elim t as (λ y. Option ℕ) [ true ↦ None | false ↦ r.source ]) ≡ Some n → n ≡ id
      its true n is_kept = absurd (cc is_kept)
      its false n is_kept = let both : Some n ≡ Some id = sym is_kept ∙ source in cc

      read : (x : Instance) → x.version ≡ v → IsRead s r x
      read x version = record { given = λ n is_kept. subst (λ m. m < s.next_instance) (sym (its (r.at == r.to) n is_kept)) lt; versions = λ y i is_kept. versions y i (its (r.at == r.to) y.id is_kept) ∙ sym version }

      by_may : (x : Instance) (t : Bool) → source_of s r ≡ Some x → IsNow (elim t as (λ y. Client) [ true ↦ record c { stage = Answering (begun_reply s q c r x) } | false ↦ c ])
      by_may x false found = now
      by_may x true found =
          let there = source_at r.source x id source found in
          begun (begun_reply s q c r x) refl refl taken (ap has_request front) (instance_head s q c x r.decision) [] (head_first last c.interim_left (instance_head s q c x r.decision) (interim_to c.front) is) (inl refl)
          (kept_begun q r x r.decision front end refl by (subst (λ (w : Version). SpanOf q.head w r.decision) (sym (versions x there.0 there.1)) shown) at to (read x (versions x there.0 there.1)))

      by_source : (o : Option Instance) → source_of s r ≡ o → IsNow (elim o as (λ y. Client) [
        | None ↦ c
        | Some x ↦ elim (may_begin s r x) as (λ z. Client) [ true ↦ record c { stage = Answering (begun_reply s q c r x) } | false ↦ c ]
      ])
      by_source None found = now
      by_source (Some x) found = by_may x (may_begin s r x) found

  -- ---- by its stage

  -- it waits to be passed, and this much of the interim answer was said
  waits_at : c.stage ≡ Passing → IsNow c → (decided ≡ Some Pass) × (last ++ c.interim_left ≡ interim_to c.front)
  waits_at at (undecided stage none is) = let both : Undecided ≡ Passing = sym stage ∙ at in absurd (cc both)
  waits_at at (waiting (inl stage) has is) = let both : Waiting ≡ Passing = sym stage ∙ at in absurd (cc both)
  waits_at at (waiting (inr stage) has is) = (stage.1, is)
  waits_at at (chosen r stage isnt_on taken has is what) = let both : Answering r ≡ Passing = sym stage ∙ at in absurd (cc both)
  waits_at at (begun r stage is_on taken has head body is rest what) = let both : Answering r ≡ Passing = sym stage ∙ at in absurd (cc both)

  chosen_at : (r : Reply) → c.stage ≡ Answering r → r.has_begun ≡ false → IsNow c → (decided ≡ Some r.decision) × (last ++ c.interim_left ≡ interim_to c.front) × Chosen s.instances s.next_instance c.front c.closes r
  chosen_at r at off (undecided stage none is) = let both : Undecided ≡ Answering r = sym stage ∙ at in absurd (cc both)
  chosen_at r at off (waiting (inl stage) has is) = let both : Waiting ≡ Answering r = sym stage ∙ at in absurd (cc both)
  chosen_at r at off (waiting (inr stage) has is) = let both : Passing ≡ Answering r = sym stage.0 ∙ at in absurd (cc both)
  chosen_at r at off (chosen p stage isnt_on taken has is what) =
      let both : Answering p ≡ Answering r = sym stage ∙ at in
      let eq : p ≡ r = cc in
      (taken ∙ ap (λ (y : Reply). Some y.decision) eq, is, subst (λ (y : Reply). Chosen s.instances s.next_instance c.front c.closes y) eq what)
  chosen_at r at off (begun p stage is_on taken has head body is rest what) =
      let both : Answering p ≡ Answering r = sym stage ∙ at in
      let eq : p ≡ r = cc in
      let on : true ≡ false = sym is_on ∙ ap (λ (y : Reply). y.has_begun) eq ∙ off in absurd (cc on)

  decided_now : (q : Parsed) (r : Reply) (t : Bool) → c.front ≡ IsRequest q → is_passing r.decision ≡ t → decided ≡ Some r.decision → last ++ c.interim_left ≡ interim_to c.front → Chosen s.instances s.next_instance c.front c.closes r → IsNow c
      → IsNow (elim t as (λ y. Client) [ true ↦ begun_passed s q r.decision c | false ↦ begun_instance s q r c ])
  decided_now q r true front passing taken is what now = passed_now q r.decision front passing taken is now
  decided_now q r false front passing taken is what now = instance_now q r front passing taken is what now

  begun_now : (q : Parsed) (r : Reply) (t : Bool) → c.front ≡ IsRequest q → c.stage ≡ Answering r → r.has_begun ≡ t → IsNow c → IsNow (elim t as (λ y. Client) [ true ↦ c | false ↦ begun_decided s q r c ])
  begun_now q r true front stage on now = now
  begun_now q r false front stage off now = let w = chosen_at r stage off now in decided_now q r (is_passing r.decision) front refl w.0 w.1 w.2 now

  stage_now : (q : Parsed) (stage : Stage) → c.front ≡ IsRequest q → c.stage ≡ stage → IsNow c
      → IsNow (elim stage as (λ y. Client) [
        | Undecided ↦ c
        | Waiting ↦ c
        | Passing ↦ begun_passed s q Pass c
        | Answering reply ↦ elim reply.has_begun as (λ z. Client) [ true ↦ c | false ↦ begun_decided s q reply c ]
      ])
  stage_now q Undecided front at now = now
  stage_now q Waiting front at now = now
  stage_now q Passing front at now = let w = waits_at at now in passed_now q Pass front refl w.0 w.1 now
  stage_now q (Answering r) front at now = begun_now q r r.has_begun front at refl now

  front_now : (front : Front) → c.front ≡ front → IsNow c → IsNow (elim front as (λ y. Client) [ NoHeadYet ↦ c | NoFront status ↦ c | IsRequest r ↦ begun_by s r c ])
  front_now NoHeadYet is now = now
  front_now (NoFront status) is now = now
  front_now (IsRequest q) is now = stage_now q c.stage is refl now

  closing_now : (t : Bool) → IsNow c → IsNow (elim t as (λ y. Client) [ true ↦ c | false ↦ elim c.front as (λ z. Client) [ NoHeadYet ↦ c | NoFront status ↦ c | IsRequest r ↦ begun_by s r c ] ])
  closing_now true now = now
  closing_now false now = front_now c.front refl now

pub begins_now : (s : State) (c : Client) (decided : Option Decision) (last : Bytes) → Now s.instances s.next_instance decided c last → Now s.instances s.next_instance decided (begun_at_end s c) last
begins_now s c decided last now = closing_now s c decided last c.is_closing now

-- a reply that begins changes the stage, and whether it is the last
any_passed : (P : Client → Type 0) (s : State) (c : Client) (q : Parsed) (d : Decision) → P c → ((stage : Stage) (closes : Bool) → P (record c { stage = stage; closes = closes })) → P (begun_passed s q d c)
any_passed P s c q d same changes = by (passed_of c)
  where
    by : (o : Option Passed) → P (elim o as (λ x. Client) [
      | None ↦ c
      | Some p ↦ record c { stage = Answering (passed_reply s q p d); closes = not (keeps_open q && is_end_known p.rule q.head.minor) }
    ])
    by None = same
    by (Some p) = changes (Answering (passed_reply s q p d)) (not (keeps_open q && is_end_known p.rule q.head.minor))

any_instance : (P : Client → Type 0) (s : State) (c : Client) (q : Parsed) (r : Reply) → P c → ((stage : Stage) (closes : Bool) → P (record c { stage = stage; closes = closes })) → P (begun_instance s q r c)
any_instance P s c q r same changes = by (source_of s r)
  where
    by_may : (x : Instance) (t : Bool) → P (elim t as (λ y. Client) [ true ↦ record c { stage = Answering (begun_reply s q c r x) } | false ↦ c ])
    by_may x true = changes (Answering (begun_reply s q c r x)) c.closes
    by_may x false = same

    by : (o : Option Instance) → P (elim o as (λ y. Client) [
      | None ↦ c
      | Some x ↦ elim (may_begin s r x) as (λ z. Client) [ true ↦ record c { stage = Answering (begun_reply s q c r x) } | false ↦ c ]
    ])
    by None = same
    by (Some x) = by_may x (may_begin s r x)

any_begun : (P : Client → Type 0) (s : State) (c : Client) → P c → ((stage : Stage) (closes : Bool) → P (record c { stage = stage; closes = closes })) → P (begun_at_end s c)
any_begun P s c same changes = by_closing c.is_closing
  where
    by_passing : (q : Parsed) (r : Reply) (t : Bool) → P (elim t as (λ y. Client) [ true ↦ begun_passed s q r.decision c | false ↦ begun_instance s q r c ])
    by_passing q r true = any_passed P s c q r.decision same changes
    by_passing q r false = any_instance P s c q r same changes

    by_reply : (q : Parsed) (r : Reply) (t : Bool) → P (elim t as (λ y. Client) [ true ↦ c | false ↦ begun_decided s q r c ])
    by_reply q r true = same
    by_reply q r false = by_passing q r (is_passing r.decision)

    by_stage : (q : Parsed) (stage : Stage) → P (elim stage as (λ y. Client) [
      | Undecided ↦ c
      | Waiting ↦ c
      | Passing ↦ begun_passed s q Pass c
      | Answering reply ↦ elim reply.has_begun as (λ z. Client) [ true ↦ c | false ↦ begun_decided s q reply c ]
    ])
    by_stage q Undecided = same
    by_stage q Waiting = same
    by_stage q Passing = any_passed P s c q Pass same changes
    by_stage q (Answering r) = by_reply q r r.has_begun

    by_front : (front : Front) → P (elim front as (λ y. Client) [ NoHeadYet ↦ c | NoFront status ↦ c | IsRequest r ↦ begun_by s r c ])
    by_front NoHeadYet = same
    by_front (NoFront status) = same
    by_front (IsRequest q) = by_stage q c.stage

    by_closing : (t : Bool) → P (elim t as (λ y. Client) [ true ↦ c | false ↦ elim c.front as (λ z. Client) [ NoHeadYet ↦ c | NoFront status ↦ c | IsRequest r ↦ begun_by s r c ] ])
    by_closing true = same
    by_closing false = by_front c.front

begun_follows : (s : State) (c : Client) → Follows (begun_at_end s c) c
begun_follows s c = any_begun (λ d. Follows d c) s c (still_follows c c refl refl refl refl refl) (λ stage closes. still_follows _ c refl refl refl refl refl)

begun_clients : State → State
begun_clients s = record s { clients = map (begun_at_end s) s.clients }

pub begin_replies-orderly : {n : ℕ} {told : Told} (s : State) → Orderly n told s → Orderly n told (begin_replies s)
unfolding begin_replies begun_clients
begin_replies-orderly s h =
    quiet_orderly (begun_clients s) _ (swept-quiet _ (forsake-quiet (is_outrun s) (begun_clients s) (quiet_same (begun_clients s))))
    (kept_orderly s (λ c. true) (begun_at_end s) (λ c. (begun_at_end-same s c).number) (begun_follows s) (λ c i hit decided last now. begins_now s c decided last now) h)
