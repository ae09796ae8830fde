-- Where the request of a seat is, is where that of its client is.
use Rattle.std.proofs.Common.{◌≡◌, refl, sym, subst, ap, ℕ, List, Option, Some, None}
use Rattle.pp_client.specs.Replies.{Reply as Said}
use Rattle.pp_law.specs.Due.{is_told}
use Rattle.pp_law.specs.Lists.{Bytes, is_some_with}
use Rattle.pp_law.specs.Requests.{Front}
use Rattle.pp_law.specs.Stages.{is_undecided}
use Rattle.pp_law.specs.State.{Client, Passed, Stage, Undecided, Waiting, Passing, Answering, Brought, Awaited, Useless, Joins, Passes, TooWide}
use Rattle.pp_seats.specs.declared.seat.Brought.{Brought as SeatBrought}
use Rattle.pp_seats.specs.declared.seat.Brought.TheVariants.{Awaited as NoneYet, Useless as NoneOfUse, Joins as JoinsRow, Passes as PassesOn, TooWide as IsTooWide, Refused}
use Rattle.pp_seats.specs.declared.seat.Course.{Course as SeatCourse}
use Rattle.pp_seats.specs.declared.seat.Stage.{Stage as SeatStage}
use Rattle.pp_seats.specs.declared.seat.Stage.TheVariants.{Undecided as IsUndecided, Waiting as IsWaiting, Passing as IsPassing, Answering as IsAnswering}
use Rattle.pp_seats.specs.Courses.{has_begun_in}
use Rattle.pp_seats.specs.Follows.{answer_in}
use Rattle.pp_seats.specs.Seats.{is_told_in, is_undecided_in, passed_in}
use Rattle.pp_seats_law.specs.Replies.{ShowsBrought, ShowsFate, ShowsStage}
use Rattle.pp_seats_law.specs.Words.{BegunIsTheLaws, PassedIsTheLaws, RepliesAreTheLaws, ShowsMaybePassed, ShowsReply, ToldIsTheLaws, UndecidedIsTheLaws}
use Rattle.pp_seats_law.proofs.Nexts.{reply_in}

stage_reply : (number : ℕ → ℕ) (said : Said) (stage : SeatStage) (other : Stage) → ShowsStage number said stage other → ShowsReply number said (answer_in stage) (reply_in other)
stage_reply number said IsUndecided Undecided shows = tt
stage_reply number said IsWaiting Waiting shows = tt
stage_reply number said IsPassing Passing shows = tt
stage_reply number said (IsAnswering a) (Answering r) shows = shows
stage_reply number said stage other shows = absurd shows

pub replies : RepliesAreTheLaws
replies number name owed seat c shows = stage_reply number seat.client.reply seat.stage c.stage shows.stage

stage_begun : (number : ℕ → ℕ) (said : Said) (stage : SeatStage) (other : Stage) → ShowsStage number said stage other → has_begun_in (answer_in stage) ≡ is_some_with (λ r. r.has_begun) (reply_in other)
stage_begun number said IsUndecided Undecided shows = refl
stage_begun number said IsWaiting Waiting shows = refl
stage_begun number said IsPassing Passing shows = refl
stage_begun number said (IsAnswering a) (Answering r) shows = shows.begun
stage_begun number said stage other shows = absurd shows

pub begun : BegunIsTheLaws
begun number name owed seat c shows = stage_begun number seat.client.reply seat.stage c.stage shows.stage

stage_undecided : (number : ℕ → ℕ) (said : Said) (stage : SeatStage) (other : Stage) → ShowsStage number said stage other → is_undecided_in stage ≡ is_undecided other
stage_undecided number said IsUndecided Undecided shows = refl
stage_undecided number said IsWaiting Waiting shows = refl
stage_undecided number said IsPassing Passing shows = refl
stage_undecided number said (IsAnswering a) (Answering r) shows = refl
stage_undecided number said stage other shows = absurd shows

pub undecided : UndecidedIsTheLaws
undecided number name owed seat c shows = stage_undecided number seat.client.reply seat.stage c.stage shows.stage

-- ---- what its exchange brought

brought_told : (number : ℕ → ℕ) (name : Bytes) (said : Said) (front : Front) (brought : SeatBrought) (other : Brought) → ShowsBrought number name said front brought other → is_told_in brought ≡ is_told other
brought_told number name said front NoneYet Awaited shows = refl
brought_told number name said front NoneOfUse Useless shows = refl
brought_told number name said front (JoinsRow id plain) (Joins n other) shows = refl
brought_told number name said front (PassesOn x) (Passes p) shows = refl
brought_told number name said front IsTooWide TooWide shows = refl
brought_told number name said front brought other shows = absurd shows

fate_told : (number : ℕ → ℕ) (name : Bytes) (owed : List Bytes) (said : Said) (course : SeatCourse) (brought : SeatBrought) (c : Client) → ShowsFate number name owed said course brought c → is_told_in brought ≡ is_told c.brought
fate_told number name owed said course Refused c shows = sym (ap is_told shows.joins.2)
fate_told number name owed said course NoneYet c shows = brought_told number name said c.front NoneYet c.brought shows.1
fate_told number name owed said course NoneOfUse c shows = brought_told number name said c.front NoneOfUse c.brought shows.1
fate_told number name owed said course (JoinsRow id plain) c shows = brought_told number name said c.front (JoinsRow id plain) c.brought shows.1
fate_told number name owed said course (PassesOn x) c shows = brought_told number name said c.front (PassesOn x) c.brought shows.1
fate_told number name owed said course IsTooWide c shows = brought_told number name said c.front IsTooWide c.brought shows.1

pub told : ToldIsTheLaws
told number name owed seat c shows = fate_told number name owed seat.client.reply seat.course seat.brought c shows.fate

abbrev passed_by : Brought → Option Passed
passed_by brought = elim brought [ Awaited ↦ None | Useless ↦ None | Joins id plain ↦ None | Passes p ↦ Some p | TooWide ↦ None ]

brought_passed : (number : ℕ → ℕ) (name : Bytes) (said : Said) (front : Front) (brought : SeatBrought) (other : Brought) → ShowsBrought number name said front brought other → ShowsMaybePassed name said front (passed_in brought) (passed_by other)
brought_passed number name said front NoneYet Awaited shows = tt
brought_passed number name said front NoneOfUse Useless shows = tt
brought_passed number name said front (JoinsRow id plain) (Joins n other) shows = tt
brought_passed number name said front (PassesOn x) (Passes p) shows = shows
brought_passed number name said front IsTooWide TooWide shows = tt
brought_passed number name said front brought other shows = absurd shows

fate_passed : (number : ℕ → ℕ) (name : Bytes) (owed : List Bytes) (said : Said) (course : SeatCourse) (brought : SeatBrought) (c : Client) → ShowsFate number name owed said course brought c → ShowsMaybePassed name said c.front (passed_in brought) (passed_by c.brought)
fate_passed number name owed said course Refused c shows = subst (λ (b : Brought). ShowsMaybePassed name said c.front None (passed_by b)) (sym shows.joins.2) tt
fate_passed number name owed said course NoneYet c shows = brought_passed number name said c.front NoneYet c.brought shows.1
fate_passed number name owed said course NoneOfUse c shows = brought_passed number name said c.front NoneOfUse c.brought shows.1
fate_passed number name owed said course (JoinsRow id plain) c shows = brought_passed number name said c.front (JoinsRow id plain) c.brought shows.1
fate_passed number name owed said course (PassesOn x) c shows = brought_passed number name said c.front (PassesOn x) c.brought shows.1
fate_passed number name owed said course IsTooWide c shows = brought_passed number name said c.front IsTooWide c.brought shows.1

pub passed : PassedIsTheLaws
passed number name owed seat c shows = fate_passed number name owed seat.client.reply seat.course seat.brought c shows.fate
