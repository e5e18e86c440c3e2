pub mod PutLaws
pub mod PageLaws
pub mod HexLaws
pub mod DecimalLaws
pub mod Settled
