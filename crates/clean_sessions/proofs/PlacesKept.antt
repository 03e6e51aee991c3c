-- What holds before a turn holds before the next one.
use Rattle.std.proofs.Common.{ℕ, Bool, true, false, sym, subst}
use Rattle.clean_sessions.specs.Courses.{Course, Stand, Told, TakesTurn, flips, speaks, prepares}
use Rattle.clean_sessions.specs.Places.{Begins, Holds}
use Rattle.clean_sessions.proofs.ReadyPlaces.{Ready, stand, ready, ready_first}

spoken_by : (course : Course) (goes heard last_own : Bool) (n : ℕ) (own partner : Told) → Ready course (stand n heard last_own own partner) → Holds course goes (flips (speaks goes (stand n heard last_own own partner)))
spoken_by course true true true n own partner r = record { some = r.some; most = r.most; place = tt }
spoken_by course false true true n own partner r = record { some = r.some; most = r.most; place = tt }
spoken_by course true true false n own partner r = record { some = r.some; most = r.most; place = r.still }
spoken_by course false true false n own partner r = record { some = r.some; most = r.most; place = r.still }
spoken_by course true false true n own partner r = record { some = r.some; most = r.most; place = tt }
spoken_by course false false true n own partner r = record { some = r.some; most = r.most; place = r.still }
spoken_by course true false false n own partner r = record { some = r.some; most = r.most; place = r.still.0 }
spoken_by course false false false n own partner r = record { some = r.some; most = r.most; place = r.still }

pub spoken : (course : Course) (goes : Bool) (at : Stand) → Ready course at → Holds course goes (flips (speaks goes at))
spoken course goes at r = spoken_by course goes at.heard at.last_own at.sets at.own at.partner r

pub kept : (course : Course) (drafts sent goes : Bool) (old new : Stand) → Holds course sent old → TakesTurn course drafts sent goes old new → Holds course goes new
kept course drafts sent goes old new h turn = subst (Holds course goes) (sym turn.next) (spoken course goes (prepares course drafts sent old) (ready course drafts sent old h))

pub first : (course : Course) (goes : Bool) (old new : Stand) → Begins course old → TakesTurn course true false goes old new → Holds course goes new
first course goes old new b turn = subst (Holds course goes) (sym turn.next) (spoken course goes (prepares course true false old) (ready_first course old b))
