-- Each contract, being one equation, settles what it speaks of.
use Rattle.laws.proofs.Settled.{settled as equation}
use Rattle.text.specs.Hex.{word_of}
use Rattle.text.specs.Settled.{Settled}

pub settled : Settled
settled =
    record {
      new = λ out at. equation _;
      place = λ p. equation _;
      byte = λ p b. equation _;
      text = λ p t. equation _;
      hex = λ p x. equation _;
      decimal = λ p n. equation _;
      word = λ p key word. equation _;
      count = λ p key n. equation _;
      read_hex = λ t. equation (word_of t);
    }
