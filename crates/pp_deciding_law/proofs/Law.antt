-- What a decision and a cut keep of the law's state: what is kept on the disk, what is set, and the phase.
use Rattle.std.proofs.Common.{◌≡◌, refl, ap, ◌∙◌, ℕ, Bool, true, false, ◌==◌, ◌||◌, not, nat_lt, find, List, [], ◌∷◌, Option, Some, None, Ok, Err, Result}
use Rattle.pp_ask.specs.declared.kind.AskKind.{AskKind}
use Rattle.pp_turns_law.specs.Takes.{taken}
use Rattle.pp_turns_law.specs.Ways.{left_for}
use Rattle.pp_head.specs.Request.{Request}
use Rattle.pp_law.specs.Closing.{close_client, exchanges_of, forsake, leave, leave_one, left_alone}
use Rattle.pp_law.specs.Connections.{each_exchange, end_exchange, exchange, on_client, on_exchange}
use Rattle.pp_law.specs.Deciding.{add_exchange, ask_as, ask_for, ask_origin, begin_exchange, decided, decided_by, enter_row, follow, follow_row, follow_with, is_for_memory, mark_row_of, refuse, relay}
use Rattle.pp_law.specs.Decisions.{kind_of}
use Rattle.pp_law.specs.Due.{first_due}
use Rattle.pp_law.specs.Leaving.{forgets_next}
use Rattle.pp_law.specs.Lists.{Bytes, has_text}
use Rattle.pp_law.specs.Phases.{in_phase}
use Rattle.pp_law.specs.Replies.{regained}
use Rattle.pp_law.specs.Requests.{Front, Parsed, NoHeadYet, NoHead, IsRequest, key_in}
use Rattle.pp_law.specs.State.{State, Client, Entry, Exchange, Instance as Known, Reply, Deciding}
use Rattle.pp_law.specs.Table.{add_row, enter, forget, forget_row, idle_row, is_kept_row_of, mark_row, row, row_for, row_on_disk, rows, swept, with_room}
use Rattle.pp_obeys.proofs.Frames.{Frame, frame, frame_of, stays}
use Rattle.pp_obeys.proofs.StaysAsks.{decided-stays}
use Rattle.pp_obeys.proofs.StaysTable.{close_client-stays}
use Rattle.pp_target.specs.Key.{Key, text_of}
use Rattle.pp_target.specs.declared.target.TargetFault.{TargetFault}
use Rattle.pp_world.specs.declared.note.Decision.{Decision}
use Rattle.pp_world.specs.declared.note.Decision.TheVariants.{Refuse, Hit, Part, Head, NotModified, Unsatisfiable, Relay, Validate, Fetch, Pass}
use Rattle.pp_deciding_law.specs.Takes.{room_made, to_take}

-- ---- the entries, and whose name another took

pub record SameDisk (s t : State) : Type 0 where
  pub entries : t.entries ≡ s.entries
  pub displaced : t.displaced ≡ s.displaced

itself : (s : State) → SameDisk s s
itself s = record { entries = refl; displaced = refl }

then : (s t u : State) → SameDisk s t → SameDisk t u → SameDisk s u
then s t u one two = record { entries = two.entries ∙ one.entries; displaced = two.displaced ∙ one.displaced }

when : (b : Bool) (s x y : State) → SameDisk s x → SameDisk s y → SameDisk s (elim b as (λ c. State) [ true ↦ x | false ↦ y ])
when true s x y one two = one
when false s x y one two = two

each : {A : Type 0} (o : Option A) (s x : State) (f : A → State) → SameDisk s x → ((a : A) → SameDisk s (f a)) → SameDisk s (elim o as (λ c. State) [ None ↦ x | Some a ↦ f a ])
each None s x f one two = one
each (Some a) s x f one two = two a

other_way : {A : Type 0} (o : Option A) (s x : State) (f : A → State) → SameDisk s x → ((a : A) → SameDisk s (f a)) → SameDisk s (elim o as (λ c. State) [ Some a ↦ f a | None ↦ x ])
other_way None s x f one two = one
other_way (Some a) s x f one two = two a

pub row_kept : (s t : State) → SameDisk s t → (key : Bytes) → row_on_disk t key ≡ row_on_disk s key
row_kept s t same key =
    ap (λ (names : List Bytes). elim (has_text key names) as (λ c. Option Entry) [ true ↦ None | false ↦ find (is_kept_row_of key) t.entries ]) same.displaced
    ∙ ap (λ (es : List Entry). elim (has_text key s.displaced) as (λ c. Option Entry) [ true ↦ None | false ↦ find (is_kept_row_of key) es ]) same.entries

-- a row comes in, and is marked
forget_disk : (id : ℕ) (s : State) → SameDisk s (forget id s)
unfolding forget
forget_disk id s = record { entries = refl; displaced = refl }

forget_row_disk : (x : Known) (s : State) → SameDisk s (forget_row x s)
unfolding forget_row forget
forget_row_disk x s = record { entries = refl; displaced = refl }

room_disk : (s : State) → SameDisk s (with_room s)
unfolding with_room
room_disk s = when (nat_lt (rows s) 1024) s s _ (itself s) (each (idle_row s) s s (λ x. forget_row x s) (itself s) (λ x. forget_row_disk x s))

add_disk : (key : Bytes) (e : Entry) (s t : State) → SameDisk s t → SameDisk s (add_row key e.version e.fields e.times false t)
unfolding add_row
add_disk key e s t same = record { entries = same.entries; displaced = same.displaced }

enter_disk : (key : Bytes) (s : State) → SameDisk s (enter key false s)
unfolding enter
enter_disk key s = other_way (row s key) s _ (λ x. s) (each (row_on_disk s key) s s (λ e. add_row key e.version e.fields e.times false (with_room s)) (itself s) (λ e. add_disk key e s (with_room s) (room_disk s))) (λ x. itself s)

mark_disk : (n : ℕ) (s : State) → SameDisk s (mark_row n s)
unfolding mark_row
mark_disk n s = record { entries = refl; displaced = refl }

mark_of_disk : (key : Bytes) (s : State) → SameDisk s (mark_row_of key s)
unfolding mark_row_of
mark_of_disk key s = each (row s key) s s (λ x. mark_row x.id s) (itself s) (λ x. mark_disk x.id s)

enter_row_disk : (c : Client) (d : Decision) (s : State) → SameDisk s (enter_row c d s)
unfolding enter_row
enter_row_disk c d s =
    when (is_for_memory d) s s _ (itself s)
    (each (key_in c.front) s s (λ key. mark_row_of (text_of key) (enter (text_of key) false s)) (itself s) (λ key. then s (enter (text_of key) false s) (mark_row_of (text_of key) (enter (text_of key) false s)) (enter_disk (text_of key) s) (mark_of_disk (text_of key) (enter (text_of key) false s))))

-- it is decided
refuse_disk : (c : Client) (status : ℕ) (s : State) → SameDisk s (refuse c status s)
unfolding refuse swept leave forsake on_client
refuse_disk c status s = record { entries = refl; displaced = refl }

ask_for_disk : (c : Client) (d : Decision) (head : Request) (key : Key) (kind : AskKind) (s : State) → SameDisk s (ask_for c d head key kind s)
unfolding ask_for swept begin_exchange add_exchange leave forsake on_client
ask_for_disk c d head key kind s = record { entries = refl; displaced = refl }

ask_as_disk : (c : Client) (d : Decision) (head : Request) (key : Key) (s : State) → SameDisk s (ask_as c d head key s)
unfolding ask_as
ask_as_disk c d head key s = each (kind_of head (row_for s head (text_of key)) d) s s (λ kind. ask_for c d head key kind s) (itself s) (λ kind. ask_for_disk c d head key kind s)

ask_disk : (c : Client) (d : Decision) (s : State) → SameDisk s (ask_origin c d s)
unfolding ask_origin
ask_disk c d s = by c.front
  where
    by_key : (r : Parsed) (k : Result Key TargetFault) → SameDisk s (elim k as (λ t. State) [ Ok key ↦ ask_as c d r.head key s | Err fault ↦ s ])
    by_key r (Ok key) = ask_as_disk c d r.head key s
    by_key r (Err fault) = itself s

    by : (f : Front) → SameDisk s (elim f as (λ t. State) [ NoHeadYet ↦ s | NoHead status ↦ s | IsRequest r ↦ elim r.key as (λ t. State) [ Ok key ↦ ask_as c d r.head key s | Err fault ↦ s ] ])
    by NoHeadYet = itself s
    by (NoHead status) = itself s
    by (IsRequest r) = by_key r r.key

relay_disk : (c : Client) (s : State) → SameDisk s (relay c s)
unfolding relay swept on_client
relay_disk c s = record { entries = refl; displaced = refl }

follow_with_disk : (c : Client) (r : Reply) (x : Known) (s : State) → SameDisk s (follow_with c r x s)
unfolding follow_with swept leave forsake on_client
follow_with_disk c r x s = record { entries = refl; displaced = refl }

follow_disk : (c : Client) (d : Decision) (s : State) → SameDisk s (follow c d s)
unfolding follow follow_row
follow_disk c d s = each (key_in c.front) s s _ (itself s) (λ key. each (row s (text_of key)) s s _ (itself s) (λ x. follow_with_disk c _ x s))

decided_by_disk : (c : Client) (d : Decision) (s : State) → SameDisk s (decided_by c d s)
unfolding decided_by
decided_by_disk c (Refuse status) s = refuse_disk c status s
decided_by_disk c Pass s = ask_disk c Pass s
decided_by_disk c Fetch s = ask_disk c Fetch s
decided_by_disk c Validate s = ask_disk c Validate s
decided_by_disk c Relay s = relay_disk c s
decided_by_disk c (Hit from to) s = follow_disk c (Hit from to) s
decided_by_disk c (Part from to) s = follow_disk c (Part from to) s
decided_by_disk c Head s = follow_disk c Head s
decided_by_disk c NotModified s = follow_disk c NotModified s
decided_by_disk c Unsatisfiable s = follow_disk c Unsatisfiable s

decided_disk : (c : Client) (d : Decision) (s : State) → SameDisk s (decided c d s)
unfolding decided
decided_disk c d s = then s (enter_row c d s) (decided_by c d (enter_row c d s)) (enter_row_disk c d s) (decided_by_disk c d (enter_row c d s))

-- behind the row that leaves, and with attempts that count anew
left_disk : (x : Known) (s : State) → SameDisk s (left_for x s)
left_disk x s = let out : SameDisk s (forget x.id s) = forget_disk x.id s in record { entries = out.entries; displaced = out.displaced }

to_take_disk : (d : Decision) (s : State) → SameDisk s (to_take d s)
to_take_disk d s = let made : SameDisk s (room_made d s) = when (is_for_memory d || not (forgets_next s (first_due s))) s s _ (itself s) (each (idle_row s) s s (λ x. left_for x s) (itself s) (λ x. left_disk x s)) in
    record { entries = made.entries; displaced = made.displaced }

regained_disk : (s : State) → SameDisk s (regained s)
unfolding regained
regained_disk s = record { entries = refl; displaced = refl }

pub taken_disk : (c : Client) (d : Decision) (s : State) → SameDisk s (regained (taken c d (to_take d s)))
taken_disk c d s =
    let u : State = to_take d s in
    let done : SameDisk u (decided c d u) = decided_disk c d u in
    then s u (regained (taken c d u)) (to_take_disk d s) (then u (taken c d u) (regained (taken c d u)) (record { entries = done.entries; displaced = done.displaced }) (regained_disk (taken c d u)))

-- ---- what is set, the clock and the phase

pub record SameWords (s t : State) : Type 0 where
  pub settings : t.settings ≡ s.settings
  pub clock : t.clock ≡ s.clock
  pub ticked : t.is_ticked ≡ s.is_ticked
  pub stopped : t.is_stopped ≡ s.is_stopped

words_itself : (s : State) → SameWords s s
words_itself s = record { settings = refl; clock = refl; ticked = refl; stopped = refl }

words_when : (b : Bool) (s x y : State) → SameWords s x → SameWords s y → SameWords s (elim b as (λ c. State) [ true ↦ x | false ↦ y ])
words_when true s x y one two = one
words_when false s x y one two = two

words_each : {A : Type 0} (o : Option A) (s x : State) (f : A → State) → SameWords s x → ((a : A) → SameWords s (f a)) → SameWords s (elim o as (λ c. State) [ None ↦ x | Some a ↦ f a ])
words_each None s x f one two = one
words_each (Some a) s x f one two = two a

left_words : (x : Known) (s : State) → SameWords s (left_for x s)
unfolding forget
left_words x s = record { settings = refl; clock = refl; ticked = refl; stopped = refl }

framed : (c : Client) (d : Decision) (s : State) → frame true (decided c d s) ≡ frame true s
framed c d s = frame_of (decided-stays {all = true} {o = frame true s} c d s (stays refl))

pub taken_words : (c : Client) (d : Decision) (s : State) → SameWords s (taken c d (to_take d s))
taken_words c d s =
    let made : SameWords s (room_made d s) = words_when (is_for_memory d || not (forgets_next s (first_due s))) s s _ (words_itself s) (words_each (idle_row s) s s (λ x. left_for x s) (words_itself s) (λ x. left_words x s)) in
    let kept : frame true (decided c d (to_take d s)) ≡ frame true (to_take d s) = framed c d (to_take d s) in
    record {
      settings = ap (λ (o : Frame). o.settings) kept ∙ made.settings;
      clock = ap (λ (o : Frame). o.clock) kept ∙ made.clock;
      ticked = ap (λ (o : Frame). o.is_ticked) kept ∙ made.ticked;
      stopped = ap (λ (o : Frame). o.is_stopped) kept ∙ made.stopped;
    }

pub taken_phase : (c : Client) (d : Decision) (s : State) → (taken c d (to_take d s)).phase ≡ Deciding
taken_phase c d s = ap (λ (o : Frame). o.phase) (framed c d (to_take d s))

pub record RegainedAs (s t : State) : Type 0 where
  pub phase : t.phase ≡ s.phase
  pub room : t.made_room_for ≡ s.made_room_for

pub regained_as : (s : State) → RegainedAs s (regained s)
unfolding regained
regained_as s = record { phase = refl; room = refl }

-- ---- a client that is cut

each_disk : (f : Exchange → State → State) → ((e : Exchange) (s : State) → SameDisk s (f e s)) → (ns : List ℕ) (s : State) → SameDisk s (each_exchange f ns s)
unfolding each_exchange
each_disk f all [] s = itself s
each_disk f all (n ∷ ns) s =
    let one : State = elim (exchange s n) as (λ c. State) [ None ↦ s | Some e ↦ f e s ] in
    then s one (each_exchange f ns one) (each (exchange s n) s s (λ e. f e s) (itself s) (λ e. all e s)) (each_disk f all ns one)

over_disk : (n : ℕ) (s : State) → SameDisk s (end_exchange n s)
unfolding end_exchange
over_disk n s = record { entries = refl; displaced = refl }

alone_disk : (n : ℕ) (s : State) → SameDisk s (on_exchange n left_alone s)
unfolding on_exchange
alone_disk n s = record { entries = refl; displaced = refl }

leave_one_disk : (e : Exchange) (s : State) → SameDisk s (leave_one e s)
unfolding leave_one
leave_one_disk e s = when (e.asked == 0) s (end_exchange e.number s) (on_exchange e.number left_alone s) (over_disk e.number s) (alone_disk e.number s)

client_disk : (n : ℕ) (f : Client → Client) (s : State) → SameDisk s (on_client n f s)
unfolding on_client
client_disk n f s = record { entries = refl; displaced = refl }

swept_disk : (s : State) → SameDisk s (swept s)
unfolding swept
swept_disk s = record { entries = refl; displaced = refl }

close_disk : (n : ℕ) (is_cut : Bool) (s : State) → SameDisk s (close_client n is_cut s)
unfolding close_client
close_disk n is_cut s =
    let closing : State = on_client n (λ c. record c { is_closing = true; is_cut = c.is_cut || is_cut }) s in
    let left : State = each_exchange leave_one (exchanges_of n s) closing in
    then s left (swept left) (then s closing left (client_disk n _ s) (each_disk leave_one leave_one_disk (exchanges_of n s) closing)) (swept_disk left)

pub cut_disk : (n : ℕ) (s : State) → SameDisk s (close_client n true (in_phase Deciding s))
cut_disk n s = let done : SameDisk (in_phase Deciding s) (close_client n true (in_phase Deciding s)) = close_disk n true (in_phase Deciding s) in record { entries = done.entries; displaced = done.displaced }

closed_frame : (n : ℕ) (s : State) → frame true (close_client n true (in_phase Deciding s)) ≡ frame true (in_phase Deciding s)
closed_frame n s = frame_of (close_client-stays {all = true} {o = frame true (in_phase Deciding s)} n true (in_phase Deciding s) (stays refl))

pub cut_words : (n : ℕ) (s : State) → SameWords s (close_client n true (in_phase Deciding s))
cut_words n s = record {
  settings = ap (λ (o : Frame). o.settings) (closed_frame n s);
  clock = ap (λ (o : Frame). o.clock) (closed_frame n s);
  ticked = ap (λ (o : Frame). o.is_ticked) (closed_frame n s);
  stopped = ap (λ (o : Frame). o.is_stopped) (closed_frame n s);
}

pub cut_phase : (n : ℕ) (s : State) → (close_client n true (in_phase Deciding s)).phase ≡ Deciding
cut_phase n s = ap (λ (o : Frame). o.phase) (closed_frame n s)

pub cut_room : (n : ℕ) (s : State) → (close_client n true (in_phase Deciding s)).made_room_for ≡ s.made_room_for
cut_room n s = ap (λ (o : Frame). o.made_room_for) (closed_frame n s)
