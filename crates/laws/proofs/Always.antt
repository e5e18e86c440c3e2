-- What holds of each first state and is kept by each call holds of each state that is reached.
use Rattle.laws.specs.Machine.{Reached, begun, more}

pub always : {S C : Type 0} {first : S → Type 0} {ok : C → Type 0} {next : S → C → S} (P : S → Type 0)
    → ((s : S) → first s → P s) → ((s : S) (c : C) → P s → ok c → P (next s c)) → {s : S} → Reached first ok next s → P s
always P b m (begun s f) = b s f
always P b m (more {s} h c k) = m s c (always P b m h) k
