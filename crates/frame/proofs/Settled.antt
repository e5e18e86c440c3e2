-- Each contract, being an equation, settles what it speaks of.
use Rattle.laws.proofs.Settled.{settled as equation}
use Rattle.frame.specs.End.{claimed_of}
use Rattle.frame.specs.Frames.{ports_in}
use Rattle.frame.specs.Promises.{Settled}

pub settled : Settled
settled =
    record {
      ports_of = λ o. equation (ports_in o);
      put_frames = λ p o first samples marks. equation _;
      put_frame = λ p o n a. equation _;
      put_end = λ p frames t. equation _;
      put_refused = λ p n. equation _;
      claimed = λ frames t. equation (claimed_of frames t);
    }
