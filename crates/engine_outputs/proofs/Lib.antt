pub mod FollowLaws
pub mod OneMoreLaws
pub mod FreeLaws
pub mod EachLaws
pub mod StandLaws
pub mod BackLaws
