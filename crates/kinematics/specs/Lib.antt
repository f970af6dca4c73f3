pub mod Kinematics
pub mod Pose
