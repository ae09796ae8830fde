-- What the log behind `run` means, in the words of its readers: the laws of `pp_laws` and of the crates beside it, of this log (RFC 2616, sections 6,
-- 8.1, 8.1.2.2 and 13.5.4).
--
-- Where the premises come from: as in Lives. Each front of such a log is lawful too, wherever a crash cuts it.
use Rattle.std.specs.Global.{Global}
use Rattle.std.specs.Prelude.{◌≡◌, ◌≤◌, ◌<◌, ◌+◌, ◌++◌, ℕ, true, List, [], ◌∷◌, length, map, Some, String, string_bytes}
use Rattle.pp_law.specs.Lawful.{Lawful}
use Rattle.pp_law.specs.Lists.{Bytes}
use Rattle.pp_law.specs.Phases.{come_to_decide}
use Rattle.pp_law.specs.Replies.{is_said}
use Rattle.pp_law.specs.Stages.{passed_of}
use Rattle.pp_law.specs.State.{Answering, Client, Exchange, Passed, Reply, Sent, Term}
use Rattle.pp_laws.specs.Origin.{SaysWhatWasSent}
use Rattle.pp_laws.specs.Runs.{IsIn, state_after}
use Rattle.pp_laws_crash.specs.Crash.{IsBacked}
use Rattle.pp_laws_found.specs.Found.{Acknowledged, HasRow, IsFoundIn, acknowledged}
use Rattle.pp_laws_lines.specs.Hosts.{WasDialled}
use Rattle.pp_laws_passed.specs.Passed.{is_in_passed}
use Rattle.pp_laws_replies.specs.ByRow.{Asker, is_by_row}
use Rattle.pp_laws_replies.specs.Replies.{SaysInOrder, taken}
use Rattle.pp_laws_replies.specs.Shown.{IsShown}
use Rattle.pp_laws_sent.specs.Stands.{StandsIn, WasAskedOn}
use Rattle.pp_laws_sent.specs.Whole.{IsOneSoFar, IsOneWhole, seen}
use Rattle.pp_obeys.specs.Obeys.{Life}
use Rattle.pp_run.specs.Lives.{HasServed, Outside}
use Rattle.pp_run.specs.declared.ending.Exit.TheVariants.{Served}
use Rattle.pp_turn_law.specs.Lives.{Wakes}
use Rattle.pp_turn_law.specs.Served.{most_happenings}
use Rattle.pp_world.specs.Disk.{IsLeftBehind}
use Rattle.pp_world.specs.Files.{Files}
use Rattle.pp_world.specs.Log.{Log}
use Rattle.pp_world.specs.Streams.{got, heard, said}
use Rattle.pp_world.specs.declared.happening.Happening.{Happening}
use Rattle.pp_world.specs.declared.happening.Happening.TheVariants.{Noted, Said, Woke}
use Rattle.pp_world.specs.declared.note.Decision.{Decision}
use Rattle.pp_world.specs.declared.note.Remark.TheVariants.{Taken}

-- so much of the log came before this happening
abbrev pub Happens : Log → Log → Happening → Type 0
Happens log front happening = (behind : Log) × (log ≡ front ++ (happening ∷ behind))

-- so much of it came at first
abbrev pub IsFrontOf : Log → Log → Type 0
IsFrontOf log front = (behind : Log) × (log ≡ front ++ behind)

-- of these lives, and this log of them; each field is a law, by its name
pub record Headline (terms : List Term) (log : Log) : Type 0 where
  -- to each client one whole reply to each of its requests, in their order, and then a front of one more, and nothing behind one that closes; a whole
  -- reply from the cache has just the bytes that its head shows, a 200 all of its version; and each is of what was decided last for its request
  pub replies_are_in_order : (n : ℕ) → SaysInOrder (heard n log) (said n log) (taken n log)
  -- each byte of a body that is said from memory, also where it was read back from the disk, was sent by an origin, for the key that the request
  -- names, at that offset, under the version that it is answered from: its strong tag and its length
  pub said_bytes_were_sent : (front : Log) (n offered : ℕ) (bytes : Bytes) → Happens log front (Said n offered bytes) → SaysWhatWasSent (state_after terms front) n bytes
  -- and the reply shows that: its head is of that version, with its length, and what is said behind the head begins at the offset that the head tells
  pub replies_show_their_version : (front : Log) → IsFrontOf log front → (c : Client) (r : Reply) → IsIn c (state_after terms front).clients → c.stage ≡ Answering r → r.has_begun ≡ true → is_by_row r.decision ≡ true
      → IsShown (state_after terms front).instances (heard c.number front) (said c.number front) (taken c.number front) c r
  -- and it was: it is data of a response that came on a connection, to an exchange that had asked for that key
  pub sent_stands_in_the_log : (part : Sent) → IsIn part (state_after terms log).sent → StandsIn (λ number. got number log) (WasAskedOn terms log) part
  -- and that connection was dialled to the host and port of the key
  pub asks_go_to_their_hosts : (number : ℕ) (e : Exchange) → WasAskedOn terms log number e → WasDialled log number e.key.host e.key.port
  -- what is not from the cache is one response to that very request, as far as it came, and whole where it is over
  pub passed_is_one_response_so_far : (front : Log) → IsFrontOf log front → (c : Client) (p : Passed) → IsIn c (state_after terms front).clients → is_in_passed c.stage ≡ true → passed_of c ≡ Some p → IsOneSoFar terms front (said c.number front) c p
  pub passed_is_one_whole_response : (front : Log) (happening : Happening) → Happens log front happening → (c : Client) (p : Passed) → IsIn c (seen (state_after terms front) happening).clients → is_in_passed c.stage ≡ true → passed_of c ≡ Some p → is_said c ≡ true
      → IsOneWhole terms (front ++ happening ∷ []) (said c.number (front ++ happening ∷ [])) c p
  -- what is answered from the cache is fresh, or was checked
  pub rows_are_fresh_or_checked : (front : Log) (n i : ℕ) (d : Decision) → Happens log front (Noted (Taken n i d)) → is_by_row d ≡ true → Asker (come_to_decide (state_after terms front)) n i
  -- wherever it ends by a crash, whatever that leaves of the folder has only bytes that were sent, and each extent that was acknowledged
  pub each_image_is_backed : (front : Log) (image : Files) → IsFrontOf log front → IsLeftBehind front image → IsBacked (state_after terms front).sent image
  pub acknowledged_is_found : (front : Log) (image : Files) (key : Bytes) (a : Acknowledged) → IsFrontOf log front → IsLeftBehind front image → acknowledged key front ≡ Some a → IsFoundIn image key a
  -- and so has a life that begins then
  pub acknowledged_is_recovered : (front : Log) (image : Files) (key : Bytes) (a : Acknowledged) → Happens log front (Woke image) → acknowledged key front ≡ Some a → HasRow (state_after terms (front ++ Woke image ∷ [])).entries key a

abbrev pub LawfulLogsHaveTheHeadline : Type 0
LawfulLogsHaveTheHeadline = (terms : List Term) (log : Log) → Lawful terms log → Headline terms log

-- the log behind a life that served, as in Lives
abbrev pub ServedLivesHaveTheHeadline : Type 0
ServedLivesHaveTheHeadline = (life : Life) (budget : ℕ) (words : List (String Global)) (files : Files) (before after : Log) (x y : Outside) → Wakes life budget (map string_bytes words) files before x → HasServed (map string_bytes words) Served x y
    → y.log ≡ Some after → y.faults ≤ budget + life.base → length after < most_happenings → Headline (life.terms budget) after
